-- What is kept of the later lines, line by line. Assumes nothing.
use Prim.Native.Nat.{ℕ, ◌+◌, ◌<◌}
use mathlib.Core.Bool.{Bool, true, false, ◌&&◌, ◌||◌, cond}
use mathlib.Core.Path.{◌≡◌, refl}
use native.Mathlib.Omega.{arith}
use lib.Dec.{ltb}
use borrow.Author.Tests.{le-ltb, ltb-true, ltb-false}
use Rattle.basics.proofs.Booleans.{split, and_false_right}
use Rattle.trace_events.specs.Inner.{side_later}
use Rattle.trace_clocks.specs.Types.{Side, Earliest}
use Rattle.trace_clocks.specs.Inner.{none_kept, kept_before, WithLine}

-- no line is kept: no `from` of 32 bits is above the largest number
pub before_none : (delay : ℕ) (b : Side) → b.from < 4294967296 → kept_before delay none_kept b ≡ false
unfolding kept_before
before_none delay b h = and_false_right b.handled (go b.ordered)
  where
    go : (o : Bool) → ltb (cond o 4294967295 4294967295 + delay) b.from ≡ false
    go true = le-ltb (4294967295 + delay) b.from (omega arith)
    go false = le-ltb (4294967295 + delay) b.from (omega arith)

-- the smaller of two is below x exactly if one of them is
module _ (delay least to x : ℕ) where
  either_below : ltb (cond (ltb to least) to least + delay) x ≡ (ltb (least + delay) x || ltb (to + delay) x)
  either_below = split (ltb to least)
      (λ e. let l = ltb-true to least e in split (ltb (to + delay) x)
      (λ f. rw (e, f) (or_either (ltb (least + delay) x)))
      (λ f. let g = ltb-false (to + delay) x f in rw (e, f, le-ltb (least + delay) x (omega arith)) refl))
      (λ e. let l = ltb-false to least e in split (ltb (least + delay) x)
      (λ f. rw (e, f) refl)
      (λ f. let g = ltb-false (least + delay) x f in rw (e, f, le-ltb (to + delay) x (omega arith)) refl))
    where
      or_either : (b : Bool) → true ≡ (b || true)
      or_either true = refl
      or_either false = refl

  smaller_below : (counts : Bool) → ltb (cond (counts && ltb to least) to least + delay) x ≡ (ltb (least + delay) x || (counts && ltb (to + delay) x))
  smaller_below true = either_below
  smaller_below false = go (ltb (least + delay) x)
    where
      go : (b : Bool) → b ≡ (b || false)
      go true = refl
      go false = refl

-- line a is kept in both, where it counts: it is before b just where the time rule says so
sides : (bh bo ah ao all messages t : Bool)
    → (bh && cond bo (all || (ah && t)) (messages || ((ah && ao) && t)))
    ≡ ((bh && cond bo all messages) || (ah && bh && (ao || bo) && t))
sides false bo true ao all messages t = refl
sides false bo false ao all messages t = refl
sides true true true true all messages t = refl
sides true true true false all messages t = refl
sides true true false ao all messages t = refl
sides true false true true all messages t = refl
sides true false true false all messages t = refl
sides true false false ao all messages t = refl

cond_out : (o : Bool) (a b delay x : ℕ) → ltb (cond o a b + delay) x ≡ cond o (ltb (a + delay) x) (ltb (b + delay) x)
cond_out true a b delay x = refl
cond_out false a b delay x = refl

-- one line more
pub before_more : {kept more : Earliest} {a : Side}
    → more.all ≡ cond (a.handled && ltb a.to kept.all) a.to kept.all
    → more.messages ≡ cond (a.handled && a.ordered && ltb a.to kept.messages) a.to kept.messages
    → WithLine kept a more
unfolding kept_before side_later
before_more {kept} {more} {a} e f = record {
  before = λ delay b.
      rw (
        cond_out b.ordered more.all more.messages delay b.from,
        cond_out b.ordered kept.all kept.messages delay b.from,
        e,
        f,
        smaller_below delay kept.all a.to b.from a.handled,
        smaller_below delay kept.messages a.to b.from (a.handled && a.ordered),
      ) (sides b.handled b.ordered a.handled a.ordered (ltb (kept.all + delay) b.from) (ltb (kept.messages + delay) b.from) (ltb (a.to + delay) b.from));
}
