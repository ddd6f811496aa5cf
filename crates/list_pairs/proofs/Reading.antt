-- An element that is there, whatever would stand for one that is not. Assumes nothing.
use Prim.Native.Nat.{ℕ, ◌<◌}
use mathlib.Core.Path.{◌≡◌, sym, ap, ◌∙◌}
use mathlib.Core.List.{List}
use lib.ListN.{length, get_or}
use lib.Seq.{set-get_or, get_or-set_same}

pub get_D_either : {A : Type 0} (l : List A) (i : ℕ) (d e : A) → i < length l → get_or l i d ≡ get_or l i e
get_D_either l i d e h = ap (λ (m : List _). get_or m i d) (sym (set-get_or l i e)) ∙ get_or-set_same l i (get_or l i e) d h
