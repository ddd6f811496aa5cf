-- Document 01, "Flow table": table order in words. That `key_order` says "before" exactly then is proved in proofs/TableOrder.antt.
use Rattle.std.specs.Prelude.{◌≡◌, List, [], ◌∷◌, ℕ, ◌<◌}
use Rattle.flow.specs.Types.{Exact, Key}

-- what table order looks at
pub data KeyField : Type 0 where
  priority port vlan src_value src_length dst_value dst_length proto sport dport : KeyField

-- in this sequence
abbrev pub sequence : List KeyField
sequence =
    KeyField.priority
    ∷ KeyField.port
    ∷ KeyField.vlan
    ∷ KeyField.src_value ∷ KeyField.src_length
    ∷ KeyField.dst_value ∷ KeyField.dst_length
    ∷ KeyField.proto
    ∷ KeyField.sport
    ∷ KeyField.dport
    ∷ []

-- `*` before numbers, numbers rising
pub data Smaller : Exact → Exact → Type 0 where
  any_number : {n : ℕ} → Smaller Exact.Any (Exact.Is n)
  numbers : {m n : ℕ} → m < n → Smaller (Exact.Is m) (Exact.Is n)

-- by the field alone j stands before k: priority falling, the others rising
abbrev pub BeforeBy : KeyField → Key → Key → Type 0
BeforeBy KeyField.priority j k = k.priority < j.priority
BeforeBy KeyField.port j k = Smaller j.pattern.port k.pattern.port
BeforeBy KeyField.vlan j k = Smaller j.pattern.vlan k.pattern.vlan
BeforeBy KeyField.src_value j k = j.pattern.src.value < k.pattern.src.value
BeforeBy KeyField.src_length j k = j.pattern.src.length < k.pattern.src.length
BeforeBy KeyField.dst_value j k = j.pattern.dst.value < k.pattern.dst.value
BeforeBy KeyField.dst_length j k = j.pattern.dst.length < k.pattern.dst.length
BeforeBy KeyField.proto j k = Smaller j.pattern.proto k.pattern.proto
BeforeBy KeyField.sport j k = Smaller j.pattern.sport k.pattern.sport
BeforeBy KeyField.dport j k = Smaller j.pattern.dport k.pattern.dport

-- both have the field the same
abbrev pub SameIn : KeyField → Key → Key → Type 0
SameIn KeyField.priority j k = j.priority ≡ k.priority
SameIn KeyField.port j k = j.pattern.port ≡ k.pattern.port
SameIn KeyField.vlan j k = j.pattern.vlan ≡ k.pattern.vlan
SameIn KeyField.src_value j k = j.pattern.src.value ≡ k.pattern.src.value
SameIn KeyField.src_length j k = j.pattern.src.length ≡ k.pattern.src.length
SameIn KeyField.dst_value j k = j.pattern.dst.value ≡ k.pattern.dst.value
SameIn KeyField.dst_length j k = j.pattern.dst.length ≡ k.pattern.dst.length
SameIn KeyField.proto j k = j.pattern.proto ≡ k.pattern.proto
SameIn KeyField.sport j k = j.pattern.sport ≡ k.pattern.sport
SameIn KeyField.dport j k = j.pattern.dport ≡ k.pattern.dport

-- the first field that is not the same decides
pub data ByFirst (j k : Key) : List KeyField → Type 0 where
  here : {f : KeyField} {fs : List KeyField} → BeforeBy f j k → ByFirst j k (f ∷ fs)
  later : {f : KeyField} {fs : List KeyField} → SameIn f j k → ByFirst j k fs → ByFirst j k (f ∷ fs)

abbrev pub StandsBefore : Key → Key → Type 0
StandsBefore j k = ByFirst j k sequence
