-- Name and number of a count stand in document 01's columns (`count_columns`). Assumes nothing.
use Prim.Native.Nat.{ℕ, suc, ◌-◌, ◌≤◌}
use native.Mathlib.Omega.{arith}
use mathlib.Core.Path.{◌≡◌}
use mathlib.Core.List.{List}
use lib.ListN.{length}
use lib.Seq.{take-append_seam, drop-append_seam, take_all}
use Rattle.text_numbers.specs.Print.{print_number}
use Rattle.text_numbers.proofs.Print.{print_length}
use Rattle.page_columns.specs.Columns.{right, columns}
use Rattle.page_columns.proofs.Columns.{right_length}
use Rattle.page_text.specs.Page.{count_text, CountColumns}

module _ (name : List ℕ) (n : ℕ) (h : length name ≤ 40) where
  number_fits : length (print_number n) ≤ 60 - length name
  number_fits = omega (arith, print_length n)

  first_columns : columns 1 (length name) (count_text name n) ≡ name
  unfolding columns count_text
  first_columns =
      let e : suc (length name) - 1 ≡ length name = omega arith in
      rw e (take-append_seam name (right (60 - length name) (print_number n)))

  number_columns : columns (suc (length name)) 60 (count_text name n) ≡ right (60 - length name) (print_number n)
  unfolding columns count_text
  number_columns =
      let e : suc (length name) - 1 ≡ length name = omega arith in
      let f : suc 60 - suc (length name) ≡ 60 - length name = omega arith in
      rw (e, f, drop-append_seam name (right (60 - length name) (print_number n)))
      (take_all (60 - length name) (right (60 - length name) (print_number n)) (omega (arith, right_length (60 - length name) (print_number n) number_fits)))

  pub count_columns : CountColumns name n (count_text name n)
  count_columns =
      let f : suc 60 - suc (length name) ≡ 60 - length name = omega arith in
      record { first = first_columns; number = rw f (number_fits, number_columns) }
