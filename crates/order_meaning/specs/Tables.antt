-- Document 01, "What an order of events does", on the tables of all switches.
use Rattle.std.specs.Prelude.{List, ℕ, Option}
use Rattle.flow_table.specs.Switches.{Tables, step_of, answer_of}
use Rattle.order_meaning.specs.Types.{Operation, Answer}
use Rattle.order_meaning.specs.Orders.{run, answer_in}

-- the end tables and the answers of an order of events
abbrev pub end_tables : (ℕ → Operation) → List ℕ → Tables → Tables
end_tables ev o s = run (λ i. step_of (ev i)) o s

abbrev pub answers : (ℕ → Operation) → List ℕ → Tables → ℕ → Option Answer
answers ev o s i = answer_in (λ k. step_of (ev k)) (λ k. answer_of (ev k)) o s i
