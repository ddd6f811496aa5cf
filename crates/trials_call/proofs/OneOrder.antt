-- The byte of one order, by the paths through the code. Assumes nothing.
use Rattle.std.specs.Prelude.{Ok, Err, is_err}
use mathlib.Core.Path.{◌≡◌, refl, sym, ap, ◌∙◌}
use mathlib.Core.Bool.{Bool, true, false, cond, true≢false, false≢true}
use mathlib.Core.Logic.{◌↔◌}
use mathlib.Core.List.{List}
use Prim.Native.Nat.{ℕ, ◌<◌}
use native.Mathlib.Omega.{arith}
use lib.ListN.{length}
use Rattle.basics.proofs.Booleans.{both_ways}
use Rattle.refusals.specs.Checks.{Checked}
use Rattle.rows.specs.Rows.{tables_of}
use Rattle.happens_before.specs.Inner.{bit}
use Rattle.order_check.specs.Schedule.{check_by, check_order}
use Rattle.order_check.proofs.Accepted.{accepted_complete, recorded_order}
use Rattle.order_check.proofs.ByRows.{check_rows}
use Rattle.order_rows.specs.Runs.{recorded}
use Rattle.order_rows.specs.Inner.{run_rows, answers_in}
use Rattle.order_trials.specs.Same.{agreeing}
use Rattle.order_trials.specs.Trials.{byte_by, order_byte}
use Rattle.order_trials.proofs.OnRows.{rows_agree_iff}
use Rattle.slots_run.specs.Inner.{EndsAs, SameEnds}
use Rattle.trials_call.specs.Types.{Event, Row, Ended, Steps, State}
use Rattle.trials_call.specs.Inner.{Ready}

-- what the code tests of a check that hands on no value
refused_byte : (c : Checked (Unit {0})) (b : Bool) → true ≡ is_err c → 2 ≡ byte_by c b
refused_byte (Err r) b p = refl
refused_byte (Ok u) b p = absurd (true≢false p)

no_refusal : (c : Checked (Unit {0})) → false ≡ is_err c → c ≡ Ok tt
no_refusal (Err r) p = absurd (false≢true p)
no_refusal (Ok u) p = refl

module _ (delay : ℕ) (es : List Event) (rs : List Row) (n : ℕ) (earlier : List (List ℕ)) (steps : Steps) (begun : State) (end : Ended)
    (ready : Ready delay es rs n earlier steps begun end) (o : List ℕ) (c : Checked (Unit {0}))
    (checked : c ≡ check_by (bit earlier) n o) where
  -- the check by numbers is that of the order
  told : c ≡ check_order delay es o
  told = checked ∙ ap (λ (k : ℕ). check_by (bit earlier) k o) ready.start.count ∙ check_rows delay es earlier ready.start.before o

  pub order_refused : true ≡ is_err c → 2 ≡ order_byte delay es (tables_of rs) o
  unfolding order_byte
  order_refused p = refused_byte c (agreeing es (tables_of rs) o (recorded es)) p ∙ ap (λ x. byte_by x (agreeing es (tables_of rs) o (recorded es))) told

  -- an accepted order
  module _ (p : false ≡ is_err c) (r : Ended) (ends : EndsAs es ready.start.slots o begun r) {b : Bool} (same : SameEnds r end n b) where
    accepted : check_order delay es o ≡ Ok tt
    accepted = sym told ∙ no_refusal c p

    -- the ends are equal exactly if the rows and the answers are
    as_rows : (b ≡ true) ↔ ((run_rows es o rs ≡ run_rows es (recorded es) rs) × ((i : ℕ) → i < length es → answers_in es o rs i ≡ answers_in es (recorded es) rs i))
    as_rows =
        let iff = same ready.start.slots ready.start.slots_of.sorted ready.start.slots_of.few ends.inside ready.ends.inside in
        let mine = ends.rows ∙ ap (run_rows es o) ready.start.rows in
        let other = ready.ends.rows ∙ ap (run_rows es (recorded es)) ready.start.rows in
        let answer : (i : ℕ) → _ = λ i. ends.answers i ∙ ap (λ x. answers_in es o x i) ready.start.rows in
        let answer' : (i : ℕ) → _ = λ i. ready.ends.answers i ∙ ap (λ x. answers_in es (recorded es) x i) ready.start.rows in (
          λ h. let (e, f) = iff.0 h in (sym mine ∙ e ∙ other, λ i l. sym (answer i) ∙ f i (omega (arith, ready.start.count)) ∙ answer' i),
          λ (e, f). iff.1 (mine ∙ e ∙ sym other, λ i l. answer i ∙ f i (omega (arith, ready.start.count)) ∙ sym (answer' i)),
        )

    agrees : b ≡ agreeing es (tables_of rs) o (recorded es)
    agrees =
        let iff = rows_agree_iff es rs ready.start.held o (recorded es) (accepted_complete delay es o accepted) (recorded_order (length es)) in
        both_ways b (agreeing es (tables_of rs) o (recorded es)) (λ h. iff.0 (as_rows.0 h)) (λ h. as_rows.1 (iff.1 h))

    pub order_ended : cond b 0 1 ≡ order_byte delay es (tables_of rs) o
    unfolding order_byte
    order_ended = ap (λ x. cond x 0 1) agrees ∙ sym (ap (λ x. byte_by x (agreeing es (tables_of rs) o (recorded es))) accepted)
