-- Laws of text formats: how they combine, and what holds of each.
use Prim.Native.Nat.{ℕ, ◌+◌, ◌<◌, ◌^◌}
use mathlib.Core.Logic.{◌↔◌}
use mathlib.Core.List.{List, [], ◌∷◌, ◌++◌, append_assoc, append-nil}
use Rattle.std.specs.Prelude.{Some}
use mathlib.Core.Path.{◌≡◌, refl, sym, ◌∙◌, ap, subst}
use native.Mathlib.Nat.{zero-add}
use native.Mathlib.Omega.{arith}
use lib.ListN.{length, drop, length-append}
use lib.Seq.{drop-drop, drop-length}
use Rattle.text_numbers.specs.Reading.{Reader, starts_with, and_then, mapped, keyed, both}
use Rattle.text_numbers.specs.Number.{is_digit, read_number}
pub use Rattle.text_numbers.specs.Format.{Ends, Follows, Format}
use Rattle.text_numbers.proofs.Readers.{nothing, same_value, same_place, on_cond, on_read_lem, behind, one_reading}
use Rattle.text_numbers.proofs.Numbers.{number_format}
use Rattle.text_numbers.proofs.Keys.{starts_self, starts_key, past_key}

-- the end of a text ends it
ends_nil : Ends []
unfolding is_digit
ends_nil = record { digit = refl; comma = refl }

-- and so does a space
pub space_ends : (w : List ℕ) → Ends (32 ∷ w)
unfolding is_digit
space_ends w = record { digit = refl; comma = refl }

-- and an LF
pub lf_ends : (w : List ℕ) → Ends (10 ∷ w)
unfolding is_digit
lf_ends w = record { digit = refl; comma = refl }

-- the place after a value, said of the texts
module _ (a b : List ℕ) (at : ℕ) where
  after_both : at + length a + length b ≡ at + length (a ++ b)
  after_both = rw length-append (omega arith)

  -- what follows the first of two texts
  rest_of : (s rest : List ℕ) → drop at s ≡ (a ++ b) ++ rest → drop (at + length a) s ≡ b ++ rest
  rest_of s rest h = behind a (b ++ rest) s at (h ∙ append_assoc a b rest)

-- ---- a key in front
module _ {A : Type 0} {ok : A → Type 0} {print : A → List ℕ} {read : Reader A} (key : List ℕ) (format : Format ok print read) where
  keyed_reads : (a : A) → ok a → (s : List ℕ) (at : ℕ) (rest : List ℕ) → Ends rest → drop at s ≡ (key ++ print a) ++ rest
      → keyed key read s at ≡ Some (a, at + length (key ++ print a))
  keyed_reads a o s at rest e h =
      sym (past_key key s at refl read (rw (h, append_assoc) (starts_self key (print a ++ rest)))
      (sym (format.reads a o s (at + length key) rest e (rest_of key (print a) at s rest h))))
      ∙ rw (after_both key (print a) at)

  keyed_only : (s : List ℕ) (at : ℕ) (a : A) (n : ℕ) → keyed key read s at ≡ Some (a, n)
      → ok a × (drop at s ≡ (key ++ print a) ++ drop n s) × (n ≡ at + length (key ++ print a))
  unfolding keyed
  keyed_only s at a n e = on_cond (starts_with key (drop at s))
      (λ k p. let (o, t, m) = format.only s (at + length key) a n p in
      (o, starts_key key (drop at s) k ∙ rw (drop-drop, t, append_assoc), m ∙ after_both key (print a) at))
      (λ k p. nothing p) e

  pub keyed_format : Format ok (λ a. key ++ print a) (keyed key read)
  keyed_format = record { reads = keyed_reads; only = keyed_only }

-- a number that was read behind a key is as small as its largest
pub keyed_below : (max bound : ℕ) (key s : List ℕ) (at : ℕ) {v n : ℕ} → max < bound → max < 10 ^ 20 → keyed key (read_number max) s at ≡ Some (v, n) → v < bound
keyed_below max bound key s at b h e = omega (arith, ((keyed_format key (number_format max h)).only s at _ _ e).0)

-- ---- the same texts for the values of another type
module _ {A B : Type 0} {ok : A → Type 0} {ok' : B → Type 0} {print : A → List ℕ} {read : Reader A} (f : B → A) (g : A → B)
    (to : (b : B) → ok' b → ok (f b) × (g (f b) ≡ b)) (back : (a : A) → ok a → ok' (g a) × (f (g a) ≡ a)) (format : Format ok print read) where
  along_reads : (b : B) → ok' b → (s : List ℕ) (at : ℕ) (rest : List ℕ) → Ends rest → drop at s ≡ print (f b) ++ rest
      → mapped g read s at ≡ Some (b, at + length (print (f b)))
  unfolding mapped
  along_reads b o s at rest e h = rw (format.reads (f b) (to b o).0 s at rest e h, (to b o).1)

  along_only : (s : List ℕ) (at : ℕ) (b : B) (n : ℕ) → mapped g read s at ≡ Some (b, n)
      → ok' b × (drop at s ≡ print (f b) ++ drop n s) × (n ≡ at + length (print (f b)))
  unfolding mapped
  along_only s at b n e = on_read_lem (read s at)
      (λ a m p q. let (o, t, l) = format.only s at a m p in
      let x : g a ≡ b = same_value q in
      let y : m ≡ n = same_place q in
      rw (← x, ← y, (back a o).1) ((back a o).0, t, l)) e

  pub along : Format ok' (λ b. print (f b)) (mapped g read)
  along = record { reads = along_reads; only = along_only }

-- ---- a tag, which decides how the rest is read
module _ {A T : Type 0} {okT : T → Type 0} {ok : A → Type 0} {printT : T → List ℕ} {readT : Reader T} {body : T → A → List ℕ} {read_body : T → Reader A}
    (tag : A → T) (fit : (a : A) → ok a → okT (tag a)) (follows : Follows (λ a. body (tag a) a))
    (tags : Format okT printT readT) (bodies : (t : T) → okT t → Format (λ a. ok a × (tag a ≡ t)) (body t) (read_body t)) where
  tagged_reads : (a : A) → ok a → (s : List ℕ) (at : ℕ) (rest : List ℕ) → Ends rest → drop at s ≡ (printT (tag a) ++ body (tag a) a) ++ rest
      → and_then readT read_body s at ≡ Some (a, at + length (printT (tag a) ++ body (tag a) a))
  unfolding and_then
  tagged_reads a o s at rest e h =
      let t = tag a in
      let u = printT t in
      let w = body t a in
      let tag_read : readT s at ≡ Some (t, at + length u) = tags.reads t (fit a o) s at (w ++ rest) (follows a rest e) (h ∙ append_assoc u w rest) in
      rw tag_read ((bodies t (fit a o)).reads a (o, refl) s (at + length u) rest e (rest_of u w at s rest h) ∙ rw (after_both u w at))

  tagged_only : (s : List ℕ) (at : ℕ) (a : A) (n : ℕ) → and_then readT read_body s at ≡ Some (a, n)
      → ok a × (drop at s ≡ (printT (tag a) ++ body (tag a) a) ++ drop n s) × (n ≡ at + length (printT (tag a) ++ body (tag a) a))
  unfolding and_then
  tagged_only s at a n e = on_read_lem (readT s at)
      (λ t m p q. let (oT, u, l) = tags.only s at t m p in
      let (o, w, k) = (bodies t oT).only s m a n q in
      rw o.1 (o.0, u ∙ rw (w, append_assoc), k ∙ rw (l, after_both (printT t) (body t a) at))) e

  pub tagged : Format ok (λ a. printT (tag a) ++ body (tag a) a) (and_then readT read_body)
  tagged = record { reads = tagged_reads; only = tagged_only }

-- ---- two in a row
pub both_format : {A B : Type 0} {ok : A → Type 0} {ok' : B → Type 0} {print : A → List ℕ} {print' : B → List ℕ} {read : Reader A} {read' : Reader B}
    → Follows print' → Format ok print read → Format ok' print' read'
    → Format (λ (p : A × B). ok p.0 × ok' p.1) (λ p. print p.0 ++ print' p.1) (both read read')
unfolding both
both_format follows first second =
    tagged (λ p. p.0) (λ p o. o.0) (λ p. follows p.1) first
    (λ a o. along (λ p. p.1) (λ b. (a, b)) (λ p o. (o.0.1, rw o.1)) (λ b o'. (((o, o'), refl), refl)) second)

-- ---- what holds of each format
module _ {A : Type 0} {ok : A → Type 0} {print : A → List ℕ} {read : Reader A} (format : Format ok print read) where
  -- a whole text reads as a value just where it is that value's text
  pub whole : (s : List ℕ) (a : A) → (read s 0 ≡ Some (a, length s)) ↔ (ok a × (s ≡ print a))
  whole s a = (to, from)
    where
      to : read s 0 ≡ Some (a, length s) → ok a × (s ≡ print a)
      to e = let (o, t, l) = format.only s 0 a (length s) e in (o, t ∙ rw (drop-length, append-nil))

      from : ok a × (s ≡ print a) → read s 0 ≡ Some (a, length s)
      from (o, t) = format.reads a o s 0 [] ends_nil (t ∙ sym (append-nil (print a))) ∙ rw (zero-add, t)

  -- one text is one value, with what ends it behind
  pub unique_before : (a b : A) → ok a → ok b → (u v : List ℕ) → Ends u → Ends v → print a ++ u ≡ print b ++ v → (a ≡ b) × (u ≡ v)
  unique_before a b o q u v h k e =
      let s = print a ++ u in
      one_reading read s (print a) (print b) u v (format.reads a o s 0 u h refl) (format.reads b q s 0 v k e) refl e

  -- and by itself
  pub unique : (a b : A) → ok a → ok b → print a ≡ print b → a ≡ b
  unique a b o q e = (unique_before a b o q [] [] ends_nil ends_nil (ap (λ (s : List ℕ). s ++ []) e)).0

-- ---- the same texts for values that are made of others: each that is ok is made of one that is
module _ {A B : Type 0} {ok : A → Type 0} {ok' : B → Type 0} {print : A → List ℕ} {read : Reader A} {read' : Reader B}
    (print' : B → List ℕ) (make : A → B) (prints : (a : A) → print' (make a) ≡ print a) (reads : (s : List ℕ) (at : ℕ) → read' s at ≡ mapped make read s at)
    (fit : (a : A) → ok a → ok' (make a)) (made : (b : B) → ok' b → (a : A) × ok a × (make a ≡ b)) (format : Format ok print read) where
  made_reads : (a : A) → ok a → (s : List ℕ) (at : ℕ) (rest : List ℕ) → Ends rest → drop at s ≡ print' (make a) ++ rest
      → read' s at ≡ Some (make a, at + length (print' (make a)))
  unfolding mapped
  made_reads a o s at rest e h = reads s at ∙ rw (format.reads a o s at rest e (h ∙ rw (prints a) refl), prints a) refl

  all_reads : (b : B) → ok' b → (s : List ℕ) (at : ℕ) (rest : List ℕ) → Ends rest → drop at s ≡ print' b ++ rest → read' s at ≡ Some (b, at + length (print' b))
  all_reads b o s at rest e h =
      let (a, q, m) = made b o in
      subst (λ (b : B). drop at s ≡ print' b ++ rest → read' s at ≡ Some (b, at + length (print' b))) m (made_reads a q s at rest e) h

  made_only : (s : List ℕ) (at : ℕ) (b : B) (n : ℕ) → read' s at ≡ Some (b, n) → ok' b × (drop at s ≡ print' b ++ drop n s) × (n ≡ at + length (print' b))
  unfolding mapped
  made_only s at b n e = on_read_lem (read s at)
      (λ a m p q. let x : make a ≡ b = same_value q in
      let y : m ≡ n = same_place q in
      let (o, t, l) = format.only s at a m p in
      rw (← x, ← y) (fit a o, t ∙ rw (prints a) refl, l ∙ rw (prints a) refl)) (sym (reads s at) ∙ e)

  pub made_format : Format ok' print' read'
  made_format = record { reads = all_reads; only = made_only }
