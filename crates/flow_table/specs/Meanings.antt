-- Document 01, "Flow table", in words: what each event leaves and answers, by which entries stand in the table. That `after` and
-- `answer` do this and nothing else is proved in proofs/Meanings.antt.
use Rattle.std.specs.Prelude.{◌≡◌, ◌⊎◌, true, false, ℕ, suc, ◌≤◌}
use mathlib.Core.List.{[], ◌∷◌, Memᴰ}
use Rattle.flow.specs.Matches.{fits, Overlap, LiesWithin}
use Rattle.flow_table.specs.Types.{Match, Packet, Action, Key, Entry, Answer, Effect}
use Rattle.flow_table.specs.FlowTable.{Table, entry}

-- ---- entries that fit, overlap, lie within
abbrev pub Fits : Packet → Entry → Type 0
Fits p e = fits e.key.pattern p ≡ true

abbrev pub FitsAt : Packet → ℕ → Entry → Type 0
FitsAt p n e = Fits p e × (e.key.priority ≡ n)

-- it has the key's priority and overlaps it
abbrev pub Clashes : Key → Entry → Type 0
Clashes k e = (e.key.priority ≡ k.priority) × Overlap k.pattern e.key.pattern

abbrev pub EntryWithin : Match → Entry → Type 0
EntryWithin m e = LiesWithin e.key.pattern m

-- ---- what a table has of a property
-- some entry, no entry
abbrev pub Some : (Entry → Type 0) → Table → Type 0
Some P t = (e : Entry) × Memᴰ e t × P e

abbrev pub None : (Entry → Type 0) → Table → Type 0
None P t = (e : Entry) → Memᴰ e t → P e → ⊥

-- e is the first entry with it
pub data First (P : Entry → Type 0) : Table → Entry → Type 0 where
  here : {e : Entry} {t : Table} → P e → First P (e ∷ t) e
  later : {d e : Entry} {t : Table} → (P d → ⊥) → First P t e → First P (d ∷ t) e

-- how many entries have it
pub data Count (P : Entry → Type 0) : Table → ℕ → Type 0 where
  nothing : Count P [] 0
  one_more : {e : Entry} {t : Table} {n : ℕ} → P e → Count P t n → Count P (e ∷ t) (suc n)
  passed : {e : Entry} {t : Table} {n : ℕ} → (P e → ⊥) → Count P t n → Count P (e ∷ t) n

-- ---- what each event answers
-- n is the highest priority among fitting entries, c is how many entries fit at it, a is the action of the first of those in table
-- order
pub record Hits (p : Packet) (t : Table) (n c : ℕ) (a : Action) : Type 0 where
  pub highest : (e : Entry) → Memᴰ e t → Fits p e → e.key.priority ≤ n
  pub many : Count (FitsAt p n) t c
  pub first : Entry
  pub is_first : First (FitsAt p n) t first
  pub its_action : first.action ≡ a

-- `pkt` and `pout`: a miss if no entry fits
abbrev pub Meets : Packet → Table → Answer → Type 0
Meets p t Answer.Silent = ⊥
Meets p t Answer.Miss = None (Fits p) t
Meets p t (Answer.Hit n c a) = Hits p t n c a
Meets p t (Answer.Done b) = ⊥

-- `addc`: no if an entry of that priority overlaps; else yes
abbrev pub Checks : Key → Table → Answer → Type 0
Checks k t Answer.Silent = ⊥
Checks k t Answer.Miss = ⊥
Checks k t (Answer.Hit n c a) = ⊥
Checks k t (Answer.Done true) = None (Clashes k) t
Checks k t (Answer.Done false) = Some (Clashes k) t

-- r is the event's answer; only `pkt`, `pout` and `addc` have one
abbrev pub Answers : Effect → Table → Answer → Type 0
Answers (Effect.Pkt p) t r = Meets p t r
Answers (Effect.Add k a) t r = r ≡ Answer.Silent
Answers (Effect.Addc k a) t r = Checks k t r
Answers (Effect.Modn k a) t r = r ≡ Answer.Silent
Answers (Effect.Dels k) t r = r ≡ Answer.Silent
Answers (Effect.Deln m) t r = r ≡ Answer.Silent
Answers Effect.Idle t r = r ≡ Answer.Silent

-- ---- what each event leaves
-- `add` sets the key's action, old entry replaced
abbrev pub Set : Key → Action → Table → Entry → Type 0
Set k a t e = (e ≡ entry k a) ⊎ (Memᴰ e t × (e.key ≡ k → ⊥))

-- `modn`, where an entry lies within the match: e is an entry within it with its new action, or one that does not lie within it
abbrev pub Modified : Match → Action → Table → Entry → Type 0
Modified m a t e = Some (λ d. EntryWithin m d × (e ≡ entry d.key a)) t ⊎ (Memᴰ e t × (EntryWithin m e → ⊥))

-- the entry e is in the table after the event
abbrev pub StandsAfter : Effect → Table → Entry → Type 0
StandsAfter (Effect.Pkt p) t e = Memᴰ e t
StandsAfter (Effect.Add k a) t e = Set k a t e
StandsAfter (Effect.Addc k a) t e = (Some (Clashes k) t × Memᴰ e t) ⊎ (None (Clashes k) t × Set k a t e)
StandsAfter (Effect.Modn k a) t e = (Some (EntryWithin k.pattern) t × Modified k.pattern a t e) ⊎ (None (EntryWithin k.pattern) t × Set k a t e)
StandsAfter (Effect.Dels k) t e = Memᴰ e t × (e.key ≡ k → ⊥)
StandsAfter (Effect.Deln m) t e = Memᴰ e t × (EntryWithin m e → ⊥)
StandsAfter Effect.Idle t e = Memᴰ e t

-- ---- a list of entries with pairwise different keys
abbrev pub Different : Table → Type 0
Different [] = Unit {0}
Different (e ∷ es) = None (λ d. d.key ≡ e.key) es × Different es
