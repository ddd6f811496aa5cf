-- Checks in sequence tell the first refusal that applies: one law for each way in which a check is made of others. Assumes nothing.
use mathlib.Core.Path.{◌≡◌, refl, sym, ap, subst, ◌∙◌}
use mathlib.Core.Bool.{Bool, true, false, false≢true}
use mathlib.Core.Logic.{◌↔◌, ◌⊎◌, inl, inr, ⊎_elim}
use mathlib.Core.List.{List, [], ◌∷◌, ◌++◌}
use Rattle.std.specs.Prelude.{Option, None, Some, Ok, Err}
use Prim.Native.Nat.{ℕ, zero, suc, ◌+◌, ◌<◌}
use native.Mathlib.Omega.{arith}
use lib.Dec.{ltb}
use lib.ListN.{length}
use Rattle.std.specs.List.{slice_get}
use borrow.Author.Tests.{ltb-true, lt-ltb}
use Rattle.basics.specs.Searches.{lowest, Lowest}
use Rattle.basics.proofs.Searches.{lowest_iff}
use Rattle.refusals.specs.Checks.{Checked, ◌▹◌, refuse_if, refuse_at, refuse_none, refuse_short}
use Rattle.refusals.proofs.Checks.{not_handed, not_refused, same_refusal, same_value, found_at}
use Rattle.text_reader.specs.Each.{in_front, read_each}
use Rattle.refusals_order.specs.Types.{Refusal}
use Rattle.refusals_order.specs.Causes.{Cause, FirstOf, NoneOf, When, AtLowest, Of, line_by_line, LowestLine}

-- ---- lists of checks
none_first : (cs : List Cause) (r : Refusal) → NoneOf cs → FirstOf cs r → ⊥
none_first [] r n f = f
none_first (c ∷ cs) r n (inl h) = n.0 r h
none_first (c ∷ cs) r n (inr h) = none_first cs r n.1 h.1

first_none : (cs : List Cause) → ((r : Refusal) → FirstOf cs r → ⊥) → NoneOf cs
first_none [] h = tt
first_none (c ∷ cs) h =
    let n : (q : Refusal) → c q → ⊥ = λ q u. h q (inl u) in
    (n, first_none cs (λ r f. h r (inr (n, f))))

in_first_lem : (cs ds : List Cause) (r : Refusal) → FirstOf cs r → FirstOf (cs ++ ds) r
in_first_lem [] ds r f = absurd f
in_first_lem (c ∷ cs) ds r (inl h) = inl h
in_first_lem (c ∷ cs) ds r (inr h) = inr (h.0, in_first_lem cs ds r h.1)

in_second : (cs ds : List Cause) (r : Refusal) → NoneOf cs → FirstOf ds r → FirstOf (cs ++ ds) r
in_second [] ds r n f = f
in_second (c ∷ cs) ds r n f = inr (n.0, in_second cs ds r n.1 f)

of_parts : (cs ds : List Cause) (r : Refusal) → FirstOf (cs ++ ds) r → FirstOf cs r ⊎ (NoneOf cs × FirstOf ds r)
of_parts [] ds r f = inr (tt, f)
of_parts (c ∷ cs) ds r (inl h) = inl (inl h)
of_parts (c ∷ cs) ds r (inr h) = ⊎_elim (λ f. inl (inr (h.0, f))) (λ p. inr ((h.0, p.0), p.1)) (of_parts cs ds r h.1)

-- two lists of the same causes
abbrev pub Same : List Cause → List Cause → Type 0
Same [] [] = Unit {0}
Same [] (d ∷ ds) = ⊥
Same (c ∷ cs) [] = ⊥
Same (c ∷ cs) (d ∷ ds) = ((r : Refusal) → c r ↔ d r) × Same cs ds

first_same : (cs ds : List Cause) (r : Refusal) → Same cs ds → FirstOf cs r ↔ FirstOf ds r
first_same [] [] r s = (λ f. f, λ f. f)
first_same [] (d ∷ ds) r s = absurd s
first_same (c ∷ cs) [] r s = absurd s
first_same (c ∷ cs) (d ∷ ds) r s = (
  λ f. ⊎_elim (λ h. inl ((s.0 r).0 h)) (λ h. inr (λ q u. h.0 q ((s.0 q).1 u), (first_same cs ds r s.1).0 h.1)) f,
  λ f. ⊎_elim (λ h. inl ((s.0 r).1 h)) (λ h. inr (λ q u. h.0 q ((s.0 q).0 u), (first_same cs ds r s.1).1 h.1)) f,
)

-- ---- a check that tells the first of these causes
abbrev pub Tells : {A : Type 0} → Checked A → List Cause → Type 0
Tells x cs = (r : Refusal) → (x ≡ Err r) ↔ FirstOf cs r

module _ {A : Type 0} (x : Checked A) (cs : List Cause) (t : Tells x cs) where
  -- a value is handed on exactly if none of them applies
  pub handed_none : ((a : A) × (x ≡ Ok a)) ↔ NoneOf cs
  handed_none = (
    λ (a, e). first_none cs (λ r f. not_refused {P = ⊥} (sym e ∙ (t r).1 f)),
    λ n. go x refl n,
  )
    where
      go : (y : Checked A) → x ≡ y → NoneOf cs → (a : A) × (x ≡ Ok a)
      go (Err r) e n = absurd (none_first cs r n ((t r).0 e))
      go (Ok a) e n = (a, e)

  -- and at most one refusal is told
  pub one_told : (q r : Refusal) → FirstOf cs q → FirstOf cs r → q ≡ r
  one_told q r f g = same_refusal {A = A} (sym ((t q).1 f) ∙ (t r).1 g)

  pub tells_same : (ds : List Cause) → Same cs ds → Tells x ds
  tells_same ds s r = (λ e. (first_same cs ds r s).0 ((t r).0 e), λ f. (t r).1 ((first_same cs ds r s).1 f))

-- and then
pub then_tells : {A B : Type 0} (x : Checked A) (next : A → Checked B) (cs ds : List Cause) → Tells x cs → ((a : A) → x ≡ Ok a → Tells (next a) ds) → Tells (x ▹ next) (cs ++ ds)
then_tells {A} {B} x next cs ds t u r = (to x refl, from)
  where
    to : (y : Checked A) → x ≡ y → (y ▹ next) ≡ Err r → FirstOf (cs ++ ds) r
    to (Err q) e h = in_first_lem cs ds r ((t r).0 (e ∙ ap Err (same_refusal {A = B} h)))
    to (Ok a) e h = in_second cs ds r ((handed_none x cs t).0 (a, e)) ((u a e r).0 h)

    from : FirstOf (cs ++ ds) r → (x ▹ next) ≡ Err r
    from f = ⊎_elim
        (λ g. ap (λ y. y ▹ next) ((t r).1 g))
        (λ g. let (a, e) = (handed_none x cs t).1 g.0 in ap (λ y. y ▹ next) e ∙ (u a e r).1 g.1)
        (of_parts cs ds r f)

-- a check that never refuses
pub never_tells : {A : Type 0} (a : A) → Tells (Ok a) []
never_tells a r = (λ e. not_refused e, λ f. absurd f)

-- ---- the kinds of causes
pub when_tells : (b : Bool) (P : Type 0) → ((b ≡ true) ↔ P) → (refusal : Refusal) → Tells (refuse_if b refusal) (When P refusal ∷ [])
when_tells true P iff refusal r = (
  λ e. inl (iff.0 refl, sym (same_refusal {A = Unit {0}} e)),
  λ f. ⊎_elim (λ h. ap Err (sym h.1)) (λ h. absurd h.1) f,
)
when_tells false P iff refusal r = (
  λ e. not_refused e,
  λ f. ⊎_elim (λ h. let z = iff.1 h.0 in absurd (false≢true z)) (λ h. absurd h.1) f,
)

pub none_tells : {A : Type 0} (x : Option A) (P : Type 0) → ((x ≡ None) ↔ P) → (refusal : Refusal) → Tells (refuse_none x refusal) (When P refusal ∷ [])
none_tells None P iff refusal r = (
  λ e. inl (iff.0 refl, sym (same_refusal e)),
  λ f. ⊎_elim (λ h. ap Err (sym h.1)) (λ h. absurd h.1) f,
)
none_tells (Some a) P iff refusal r = (
  λ e. not_refused e,
  λ f. ⊎_elim (λ h. let z : ◌≡◌ {A = ℕ} 0 1 = (let q = iff.1 h.0 in cc) in absurd (omega arith)) (λ h. absurd h.1) f,
)

pub some_handed : {A : Type 0} (x : Option A) (refusal : Refusal) {a : A} → refuse_none x refusal ≡ Ok a → x ≡ Some a
some_handed None refusal e = not_handed e
some_handed (Some b) refusal e = ap Some (same_value e)

-- the room that a text needs
pub short_tells : (room : ℕ) (text : List ℕ) (refusal : ℕ → Refusal) → Tells (refuse_short room text refusal) (When (room < length text) (refusal (length text)) ∷ [])
short_tells room text refusal = when_tells (ltb room (length text)) (room < length text) (ltb-true room (length text), lt-ltb room (length text)) (refusal (length text))

-- a search that finds just one place
pub found_tells : (x : Option ℕ) (At : ℕ → Type 0) → ((j : ℕ) → (x ≡ Some j) ↔ At j) → (refusal : ℕ → Refusal)
    → Tells (refuse_at x refusal) ((λ r. (j : ℕ) × At j × (r ≡ refusal j)) ∷ [])
found_tells x At iff refusal r = (
  λ e. let (j, p, q) = found_at x refusal e in inl (j, (iff j).0 p, q),
  λ f. ⊎_elim (λ (j, p, q). ap (λ y. refuse_at y refusal) ((iff j).1 p) ∙ ap Err (sym q)) (λ h. absurd h.1) f,
)

pub lowest_tells : (P : ℕ → Type 0) (p : ℕ → Bool) → ((j : ℕ) → (p j ≡ true) ↔ P j) → (n : ℕ) (refusal : ℕ → Refusal)
    → Tells (refuse_at (lowest p n) refusal) (AtLowest P n refusal ∷ [])
lowest_tells P p iff n refusal = found_tells (lowest p n) (Lowest P n) (lowest_iff P p iff n) refusal

-- a cause that speaks of what the input says, where it says a and nothing else
pub of_said : {A : Type 0} (Says : A → Type 0) (a : A) → Says a → ((b : A) → Says b → b ≡ a) → (c : A → Cause) (r : Refusal) → c a r ↔ Of Says c r
of_said Says a s only c r = (λ h. (a, s, h), λ (b, t, h). subst (λ x. c x r) (only b t) h)

-- ---- the lines one after the other
module _ {A : Type 0} (read : ℕ → List ℕ → Checked A) (causes : ℕ → List ℕ → List Cause) (tells : (k : ℕ) (l : List ℕ) → Tells (read k l) (causes k l)) where
  front_then : (x : Checked A) (y : Checked (List A)) → in_front x y ≡ (x ▹ λ a. y ▹ λ vs. Ok (a ∷ vs))
  front_then (Err r) y = refl
  front_then (Ok a) (Err r) = refl
  front_then (Ok a) (Ok vs) = refl

  pub each_tells : (k : ℕ) (ls : List (List ℕ)) → Tells (read_each read k ls) (line_by_line causes k ls)
  unfolding read_each
  each_tells k [] = never_tells []
  each_tells k (l ∷ ls) =
      let rest = read_each read (k + 1) ls in
      subst (λ y. Tells y (line_by_line causes k (l ∷ ls))) (sym (front_then (read k l) rest))
      (then_tells (read k l) (λ a. rest ▹ λ vs. Ok (a ∷ vs)) (causes k l) (line_by_line causes (k + 1) ls) (tells k l)
      (λ a e r. (
        λ h. (each_tells (k + 1) ls r).0 (carried rest a r h),
        λ f. ap (λ y. y ▹ λ vs. Ok (a ∷ vs)) ((each_tells (k + 1) ls r).1 f),
      )))
    where
      carried : (y : Checked (List A)) (a : A) (r : Refusal) → (y ▹ λ vs. Ok (a ∷ vs)) ≡ Err r → y ≡ Err r
      carried (Err q) a r h = ap Err (same_refusal {A = List A} h)
      carried (Ok vs) a r h = not_refused h

-- ---- the first of the lines' causes is one of the lowest line that has any, the first that it has
module _ (causes : ℕ → List ℕ → List Cause) where
  -- of the lines from line k on
  abbrev LowestFrom : ℕ → List (List ℕ) → Refusal → Type 0
  LowestFrom k ls r = (j : ℕ) × (l : List ℕ) × (slice_get ls j ≡ Some l) × FirstOf (causes (k + j) l) r
      × ((i : ℕ) (m : List ℕ) → i < j → slice_get ls i ≡ Some m → NoneOf (causes (k + i) m))

  from_first : (k : ℕ) (ls : List (List ℕ)) (r : Refusal) → FirstOf (line_by_line causes k ls) r → LowestFrom k ls r
  from_first k [] r f = absurd f
  from_first k (l ∷ ls) r f =
      ⊎_elim
      (λ g. (0, l, refl, subst (λ i. FirstOf (causes i l) r) (omega arith) g, λ i m h e. absurd (omega arith)))
      (λ g. let (j, m, e, h, n) = from_first (k + 1) ls r g.1 in (
        suc j,
        m,
        e,
        subst (λ i. FirstOf (causes i m) r) (omega arith) h,
        lower j g.0 n,
      ))
      (of_parts (causes k l) (line_by_line causes (k + 1) ls) r f)
    where
      lower : (j : ℕ) → NoneOf (causes k l) → ((i : ℕ) (m : List ℕ) → i < j → slice_get ls i ≡ Some m → NoneOf (causes (k + 1 + i) m))
          → (i : ℕ) (m : List ℕ) → i < suc j → slice_get (l ∷ ls) i ≡ Some m → NoneOf (causes (k + i) m)
      lower j g n zero m h e = let q : l ≡ m = cc in subst (λ x. NoneOf (causes (k + 0) x)) q (subst (λ i. NoneOf (causes i l)) (omega arith) g)
      lower j g n (suc i) m h e = subst (λ x. NoneOf (causes x m)) (omega arith) (n i m (omega arith) e)

  first_from : (k : ℕ) (ls : List (List ℕ)) (r : Refusal) (j : ℕ) (l : List ℕ) → slice_get ls j ≡ Some l → FirstOf (causes (k + j) l) r
      → ((i : ℕ) (m : List ℕ) → i < j → slice_get ls i ≡ Some m → NoneOf (causes (k + i) m)) → FirstOf (line_by_line causes k ls) r
  first_from k [] r j l e f n = let z : ◌≡◌ {A = ℕ} 0 1 = cc in absurd (omega arith)
  first_from k (x ∷ ls) r zero l e f n =
      let q : x ≡ l = cc in
      in_first_lem (causes k x) (line_by_line causes (k + 1) ls) r (subst (λ i. FirstOf (causes i x) r) (omega arith) (subst (λ y. FirstOf (causes (k + 0) y) r) (sym q) f))
  first_from k (x ∷ ls) r (suc j) l e f n =
      in_second (causes k x) (line_by_line causes (k + 1) ls) r
      (subst (λ i. NoneOf (causes i x)) (omega arith) (n 0 x (omega arith) refl))
      (first_from (k + 1) ls r j l e (subst (λ i. FirstOf (causes i l) r) (omega arith) f)
      (λ i m h p. subst (λ y. NoneOf (causes y m)) (omega arith) (n (suc i) m (omega arith) p)))

  -- the line is the lowest that fails a check, and the refusal is by the first check that it fails
  pub lowest_line_iff : (ls : List (List ℕ)) (r : Refusal) → FirstOf (line_by_line causes 0 ls) r ↔ LowestLine causes ls r
  lowest_line_iff ls r = (
    λ f. let (j, l, e, g, n) = from_first 0 ls r f in record {
      line = j;
      text = l;
      there = e;
      first = subst (λ i. FirstOf (causes i l) r) (omega arith) g;
      none_lower = λ i m h p. subst (λ y. NoneOf (causes y m)) (omega arith) (n i m h p);
    },
    λ w. first_from 0 ls r w.line w.text w.there (subst (λ i. FirstOf (causes i w.text) r) (omega arith) w.first)
        (λ i m h p. subst (λ y. NoneOf (causes y m)) (omega arith) (w.none_lower i m h p)),
  )
