-- The paths through the verdict, and the verdict by what each event is to the list. Assumes nothing.
use mathlib.Core.Path.{◌≡◌, refl, sym, ◌∙◌}
use mathlib.Core.Bool.{Bool, true, false}
use Rattle.flow_table.specs.FlowTable.{effect_of}
use Rattle.commuting.specs.InnerFootprints.{footprints_commute, NarrowEffect}
use Rattle.commuting.proofs.Footprints.{footprints_commute_lem}
use Rattle.list_verdicts.specs.Kinds.{paired}
use Rattle.list_verdicts.specs.Types.{Operation, Verdict, TableUse}
use Rattle.list_verdicts.specs.Inner.{verdict_of, table_use, uses_paired, verdict_by}

pub verdict_by_lem : (o p : Operation) → NarrowEffect (effect_of o) → NarrowEffect (effect_of p) → (h : Bool) → verdict_by (table_use o) (table_use p) h ≡ verdict_of o p h
unfolding verdict_by verdict_of table_use uses_paired paired
verdict_by_lem o p n k h = rw (footprints_commute_lem (effect_of o) (effect_of p) n k)

module _ (a b : TableUse) (h : Bool) {x : Bool} (e : x ≡ uses_paired a b) where
  pub unpaired : x ≡ false → Verdict.Unpaired ≡ verdict_by a b h
  unfolding verdict_by
  unpaired f = rw (sym e ∙ f) refl

  pub is_ordered : x ≡ true → h ≡ true → Verdict.Ordered ≡ verdict_by a b h
  unfolding verdict_by
  is_ordered f g = rw (sym e ∙ f, g) refl

  pub is_commuting : {m : Bool} → x ≡ true → h ≡ false → m ≡ footprints_commute a.footprint b.footprint → m ≡ true → Verdict.Commuting ≡ verdict_by a b h
  unfolding verdict_by
  is_commuting f g d k = rw (sym e ∙ f, g, sym d ∙ k) refl

  pub is_listed : {m : Bool} → x ≡ true → h ≡ false → m ≡ footprints_commute a.footprint b.footprint → m ≡ false → Verdict.Listed ≡ verdict_by a b h
  unfolding verdict_by
  is_listed f g d k = rw (sym e ∙ f, g, sym d ∙ k) refl
