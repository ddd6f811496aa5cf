-- A text within its limits.
use Prim.Native.Nat.{ℕ, ◌≤◌, ◌<◌}
use mathlib.Core.Path.{◌≡◌, refl}
use mathlib.Core.Bool.{Bool, true, false, cond}
use mathlib.Core.List.{List}
use borrow.Author.Tests.{lt-ltb, le-ltb, ltb-false}
use lib.Dec.{ltb}
use lib.ListN.{length}
use Rattle.std.specs.Prelude.{None, Some}
use Rattle.text_lines.specs.Lines.{lines, ends_with_lf}
use Rattle.text_lines.specs.Inner.{newlines}
use Rattle.text_lines.specs.declared.limits.Limit.{Limit}
use Rattle.text_lines.specs.Limits.{limit_of, Within}
use Rattle.text_lines.proofs.Lines.{lines_count}

-- ---- the limits, in the order of the tests
module _ (s : List ℕ) where
  pub too_long : 65535 < length s → Some Limit.TooLong ≡ limit_of s
  unfolding limit_of
  too_long h = rw (lt-ltb _ _ h)

  module _ (short : length s ≤ 65535) where
    pub unended : ends_with_lf s ≡ false → Some Limit.Unended ≡ limit_of s
    unfolding limit_of
    unended e = rw (le-ltb _ _ short, e)

    module _ (ended : ends_with_lf s ≡ true) where
      pub too_many : 256 < newlines s → Some Limit.TooManyLines ≡ limit_of s
      unfolding limit_of
      too_many h = rw (le-ltb _ _ short, ended, lines_count s ended, lt-ltb _ _ h)

      pub kept : newlines s ≤ 256 → None ≡ limit_of s
      unfolding limit_of
      kept h = rw (le-ltb _ _ short, ended, lines_count s ended, le-ltb _ _ h)

-- ---- none is exceeded exactly if the text is within them
pub within_limit : (s : List ℕ) → Within s → limit_of s ≡ None
unfolding limit_of
within_limit s w = rw (le-ltb _ _ w.bytes, w.ended, le-ltb _ _ w.few)

pub limit_within : (s : List ℕ) → limit_of s ≡ None → Within s
unfolding limit_of
limit_within s e = go (ltb 65535 (length s)) refl (ends_with_lf s) refl (ltb 256 (length (lines s))) refl e
  where
    go : (a : Bool) → ltb 65535 (length s) ≡ a → (b : Bool) → ends_with_lf s ≡ b → (c : Bool) → ltb 256 (length (lines s)) ≡ c
        → cond a (Some Limit.TooLong) (cond b (cond c (Some Limit.TooManyLines) None) (Some Limit.Unended)) ≡ None → Within s
    go true p b q c r e = cc
    go false p false q c r e = cc
    go false p true q true r e = cc
    go false p true q false r e = record { bytes = ltb-false _ _ p; ended = q; few = ltb-false _ _ r }
