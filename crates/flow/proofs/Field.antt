-- What a field of a match is: patterns and values with their ranges, tests, a meet and a point, and seven laws. Fields side by
-- side are a field, so a match of any number of fields is one; what the rest uses of a match follows from the laws.
-- Assumes nothing.
use mathlib.Core.Path.{◌≡◌, refl, sym, ◌∙◌}
use mathlib.Core.Bool.{Bool, true, false, ◌&&◌, true≢false}
use Rattle.basics.proofs.Booleans.{split, and_intro, and_left, and_right, and_cases, and_false_right, and_swap}

pub record IsField {M : Type 0} {X : Type 0} (okM : M → Type 0) (okX : X → Type 0) (fits : M → X → Bool) (within overlaps : M → M → Bool) (meet : M → M → M)
    (point : M → X) : Type 0 where
  -- each pattern has a value that fits
  pub point_fits : (a : M) → fits a (point a) ≡ true
  pub point_ok : (a : M) → okM a → okX (point a)
  -- within: what fits the one fits the other; where the test says no a value tells so
  pub within_fits : (a b : M) → within a b ≡ true → (x : X) → fits a x ≡ true → fits b x ≡ true
  pub tells : (a b : M) → within a b ≡ false → (x : X) × (fits a x ≡ true) × (fits b x ≡ false) × (okM a → okM b → okX x)
  -- overlap: a value that fits both shows it; where the test says yes the meet has exactly the common values
  pub fits_overlap : (a b : M) (x : X) → fits a x ≡ true → fits b x ≡ true → overlaps a b ≡ true
  pub meet_fits : (a b : M) → overlaps a b ≡ true → (x : X) → fits (meet a b) x ≡ fits a x && fits b x
  pub meet_ok : (a b : M) → okM a → okM b → okM (meet a b)

-- what follows from the laws
module _ {M : Type 0} {X : Type 0} {okM : M → Type 0} {okX : X → Type 0} {fits : M → X → Bool} {within overlaps : M → M → Bool} {meet : M → M → M} {point : M → X}
    (F : IsField okM okX fits within overlaps meet point) where
  fits_within : (a b : M) → ((x : X) → fits a x ≡ true → fits b x ≡ true) → within a b ≡ true
  fits_within a b h = split (within a b) (λ e. e) (λ e. let t = F.tells a b e in absurd (true≢false (sym (h t.0 t.1) ∙ t.2)))

  pub within_self : (a : M) → within a a ≡ true
  within_self a = fits_within a a (λ x e. e)

  pub meet_left : (a b : M) → overlaps a b ≡ true → within (meet a b) a ≡ true
  meet_left a b h = fits_within (meet a b) a (λ x e. and_left (fits a x) (fits b x) (sym (F.meet_fits a b h x) ∙ e))

  pub meet_right : (a b : M) → overlaps a b ≡ true → within (meet a b) b ≡ true
  meet_right a b h = fits_within (meet a b) b (λ x e. and_right (fits a x) (fits b x) (sym (F.meet_fits a b h x) ∙ e))

  -- two that overlap have a value in common
  pub shared : (a b : M) → overlaps a b ≡ true → (x : X) × (fits a x ≡ true) × (fits b x ≡ true) × (okM a → okM b → okX x)
  shared a b h =
      let x = point (meet a b) in
      let e = sym (F.meet_fits a b h x) ∙ F.point_fits (meet a b) in
      (x, and_left (fits a x) (fits b x) e, and_right (fits a x) (fits b x) e, λ i j. F.point_ok (meet a b) (F.meet_ok a b i j))

  pub overlap_sym : (a b : M) → overlaps a b ≡ true → overlaps b a ≡ true
  overlap_sym a b h = let s = shared a b h in F.fits_overlap b a s.0 s.2 s.1

  pub within_overlap : (a b : M) → within a b ≡ true → overlaps a b ≡ true
  within_overlap a b h = F.fits_overlap a b (point a) (F.point_fits a) (F.within_fits a b h (point a) (F.point_fits a))

  -- what overlaps a part overlaps the whole
  pub overlap_up : (a b c : M) → within b c ≡ true → overlaps a b ≡ true → overlaps a c ≡ true
  overlap_up a b c w h = let s = shared a b h in F.fits_overlap a c s.0 s.1 (F.within_fits b c w s.0 s.2)

-- the same field behind other types: f for patterns, g and its inverse for values
module _ {M : Type 0} {X : Type 0} {okM : M → Type 0} {okX : X → Type 0} {fits : M → X → Bool} {within overlaps : M → M → Bool} {meet : M → M → M} {point : M → X}
    (F : IsField okM okX fits within overlaps meet point) {N : Type 0} {Y : Type 0} (okN : N → Type 0) (okY : Y → Type 0) (f : N → M) (g : Y → X) (g⁻ : X → Y)
    (g-back : (x : X) → g (g⁻ x) ≡ x) (f-ok : (a : N) → okN a → okM (f a)) (g-ok : (x : X) → okX x → okY (g⁻ x)) (meet' : N → N → N)
    (meet_is : (a b : N) → overlaps (f a) (f b) ≡ true → (x : X) → fits (f (meet' a b)) x ≡ fits (meet (f a) (f b)) x)
    (meet_ok' : (a b : N) → okN a → okN b → okN (meet' a b)) where
  pub along : IsField {M = N} {X = Y} okN okY (λ a x. fits (f a) (g x)) (λ a b. within (f a) (f b)) (λ a b. overlaps (f a) (f b)) meet' (λ a. g⁻ (point (f a)))
  along = record {
    point_fits = λ a. rw g-back (F.point_fits (f a));
    point_ok = λ a h. g-ok (point (f a)) (F.point_ok (f a) (f-ok a h));
    within_fits = λ a b h x e. F.within_fits (f a) (f b) h (g x) e;
    tells = λ a b e. let t = F.tells (f a) (f b) e in (g⁻ t.0, rw (g-back t.0) t.1, rw (g-back t.0) t.2, λ i j. g-ok t.0 (t.3 (f-ok a i) (f-ok b j)));
    fits_overlap = λ a b x e k. F.fits_overlap (f a) (f b) (g x) e k;
    meet_fits = λ a b h x. meet_is a b h (g x) ∙ F.meet_fits (f a) (f b) h (g x);
    meet_ok = meet_ok';
  }

-- two fields side by side
module _ {M : Type 0} {X : Type 0} {okM : M → Type 0} {okX : X → Type 0} {fits : M → X → Bool} {within overlaps : M → M → Bool} {meet : M → M → M} {point : M → X}
    {N : Type 0} {Y : Type 0} {okN : N → Type 0} {okY : Y → Type 0} {fits' : N → Y → Bool} {within' overlaps' : N → N → Bool} {meet' : N → N → N} {point' : N → Y}
    (F : IsField okM okX fits within overlaps meet point) (G : IsField okN okY fits' within' overlaps' meet' point') where
  pub beside : IsField {M = M × N} {X = X × Y} (λ a. okM a.0 × okN a.1) (λ x. okX x.0 × okY x.1) (λ a x. fits a.0 x.0 && fits' a.1 x.1)
      (λ a b. within a.0 b.0 && within' a.1 b.1) (λ a b. overlaps a.0 b.0 && overlaps' a.1 b.1) (λ a b. (meet a.0 b.0, meet' a.1 b.1))
      (λ a. (point a.0, point' a.1))
  beside = record {
    point_fits = λ a. and_intro (F.point_fits a.0) (G.point_fits a.1);
    point_ok = λ a h. (F.point_ok a.0 h.0, G.point_ok a.1 h.1);
    within_fits = λ a b h x e. and_intro
        (F.within_fits a.0 b.0 (and_left (within a.0 b.0) (within' a.1 b.1) h) x.0 (and_left (fits a.0 x.0) (fits' a.1 x.1) e))
        (G.within_fits a.1 b.1 (and_right (within a.0 b.0) (within' a.1 b.1) h) x.1 (and_right (fits a.0 x.0) (fits' a.1 x.1) e));
    tells = λ a b e. and_cases (within a.0 b.0) (within' a.1 b.1) e
        (λ u. let t = F.tells a.0 b.0 u in (
          (t.0, point' a.1),
          and_intro t.1 (G.point_fits a.1),
          rw t.2 refl,
          λ i j. (t.3 i.0 j.0, G.point_ok a.1 i.1),
        ))
        (λ u. let t = G.tells a.1 b.1 u in (
          (point a.0, t.0),
          and_intro (F.point_fits a.0) t.1,
          and_false_right (fits b.0 (point a.0)) t.2,
          λ i j. (F.point_ok a.0 i.0, t.3 i.1 j.1),
        ));
    fits_overlap = λ a b x e k. and_intro
        (F.fits_overlap a.0 b.0 x.0 (and_left (fits a.0 x.0) (fits' a.1 x.1) e) (and_left (fits b.0 x.0) (fits' b.1 x.1) k))
        (G.fits_overlap a.1 b.1 x.1 (and_right (fits a.0 x.0) (fits' a.1 x.1) e) (and_right (fits b.0 x.0) (fits' b.1 x.1) k));
    meet_fits = λ a b h x. rw (F.meet_fits a.0 b.0 (and_left (overlaps a.0 b.0) (overlaps' a.1 b.1) h) x.0, G.meet_fits a.1 b.1 (and_right (overlaps a.0 b.0) (overlaps' a.1 b.1) h) x.1)
        (and_swap (fits a.0 x.0) (fits b.0 x.0) (fits' a.1 x.1) (fits' b.1 x.1));
    meet_ok = λ a b h k. (F.meet_ok a.0 b.0 h.0 k.0, G.meet_ok a.1 b.1 h.1 k.1);
  }
