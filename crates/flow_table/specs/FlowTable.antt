-- Document 01, "Flow table": the table, and what each event leaves and answers.
use Rattle.std.specs.Prelude.{◌≡◌, Bool, false, ◌&&◌, ◌||◌, not, cond, List, [], ◌∷◌, ℕ, suc, max, eqb, length, Option, None, Some}
use Rattle.flow.specs.Matches.{fits, overlaps, within, MatchInRange, PacketInRange}
use Rattle.flow.specs.Entries.{key_order, same_key, KeyInRange, ActionInRange, EntryInRange}
use Rattle.flow_table.specs.Types.{Match, Packet, Action, Key, Entry, Ordering, TableOperation, Operation, Answer, Effect}

-- a table is the list of its entries, in strictly rising table order: so at most one entry has a key, and two tables with the
-- same entries are equal (proofs/TableLaws.antt, `same_entries`)
abbrev pub Table : Type 0
Table = List Entry

abbrev pub entry : Key → Action → Entry
entry k a = record { key = k; action = a }

-- every entry of t stands after k
abbrev pub Before : Key → Table → Type 0
Before k [] = Unit {0}
Before k (e ∷ t) = (key_order k e.key ≡ Ordering.Less) × Before k t

abbrev pub Sorted : Table → Type 0
Sorted [] = Unit {0}
Sorted (e ∷ t) = Before e.key t × Sorted t

-- the ranges of document 01, for all entries
abbrev pub TableInRange : Table → Type 0
TableInRange [] = Unit {0}
TableInRange (e ∷ t) = EntryInRange e × TableInRange t

-- the action at a key, if there is an entry
abbrev pub get : Key → Table → Option Action
get k [] = None
get k (e ∷ t) = cond (same_key k e.key) (Some e.action) (get k t)

-- ---- three changes of a table, and one question
-- the key's action set, an old entry replaced
abbrev pub insert_by : Ordering → Entry → Entry → Table → Table → Table
insert_by Ordering.Less n e t rest = n ∷ e ∷ t
insert_by Ordering.Equal n e t rest = n ∷ t
insert_by Ordering.Greater n e t rest = e ∷ rest

abbrev pub insert : Key → Action → Table → Table
insert k a [] = entry k a ∷ []
insert k a (e ∷ t) = insert_by (key_order k e.key) (entry k a) e t (insert k a t)

-- without the entries whose keys pass the test
abbrev pub remove_if : (Key → Bool) → Table → Table
remove_if p [] = []
remove_if p (e ∷ t) = cond (p e.key) (remove_if p t) (e ∷ remove_if p t)

-- the action a at each entry whose key passes the test
abbrev pub assign_if : (Key → Bool) → Action → Table → Table
assign_if p a [] = []
assign_if p a (e ∷ t) = entry e.key (cond (p e.key) a e.action) ∷ assign_if p a t

-- some entry's key passes the test
abbrev pub any_of : (Key → Bool) → Table → Bool
any_of p [] = false
any_of p (e ∷ t) = p e.key || any_of p t

-- ---- the tests that events make of a key
-- its match lies within m
abbrev pub inside : Match → Key → Bool
inside m k = within k.pattern m

-- it has j's priority and overlaps j
abbrev pub clash : Key → Key → Bool
clash j k = eqb j.priority k.priority && overlaps j.pattern k.pattern

-- its match admits the packet
abbrev pub admits : Packet → Key → Bool
admits p k = fits k.pattern p

-- ---- what a packet meets: the highest priority among the fitting entries, how many fit at it, and the action of the first
abbrev pub fitting : Packet → Table → Table
fitting p t = remove_if (λ k. not (admits p k)) t

abbrev pub highest : Table → ℕ
highest [] = 0
highest (e ∷ t) = max e.key.priority (highest t)

abbrev pub at_priority : ℕ → Table → Table
at_priority n t = remove_if (λ k. not (eqb k.priority n)) t

abbrev pub first_at : ℕ → Table → Answer
first_at n [] = Answer.Miss
first_at n (e ∷ t) = Answer.Hit n (suc (length t)) e.action

unfoldable pub best : Table → Answer
best t = first_at (highest t) (at_priority (highest t) t)

-- ---- what an event does to its switch's table, by document 01's words (`Effect`, src/effect.rt); `mods` reads as `add`, and
-- `pout` as `pkt`
abbrev pub table_effect : TableOperation → Effect
table_effect (TableOperation.Packet g p) = Effect.Pkt p
table_effect (TableOperation.Add e) = Effect.Add e.key e.action
table_effect (TableOperation.AddChecked e) = Effect.Addc e.key e.action
table_effect (TableOperation.ModifyStrict e) = Effect.Add e.key e.action
table_effect (TableOperation.Modify e) = Effect.Modn e.key e.action
table_effect (TableOperation.DeleteStrict k) = Effect.Dels k
table_effect (TableOperation.Delete m) = Effect.Deln m

-- `oth`, `bar` and `msg` use no table
abbrev pub effect_of : Operation → Effect
effect_of Operation.Other = Effect.Idle
effect_of (Operation.Barrier w) = Effect.Idle
effect_of (Operation.Message w) = Effect.Idle
effect_of (Operation.Table w o) = table_effect o

-- the table that an event leaves
unfoldable pub after : Effect → Table → Table
after (Effect.Pkt p) t = t
after (Effect.Add k a) t = insert k a t
after (Effect.Addc k a) t = cond (any_of (clash k) t) t (insert k a t)
after (Effect.Modn k a) t = cond (any_of (inside k.pattern) t) (assign_if (inside k.pattern) a t) (insert k a t)
after (Effect.Dels k) t = remove_if (same_key k) t
after (Effect.Deln m) t = remove_if (inside m) t
after Effect.Idle t = t

-- its answer
unfoldable pub answer : Effect → Table → Answer
answer (Effect.Pkt p) t = best (fitting p t)
answer (Effect.Add k a) t = Answer.Silent
answer (Effect.Addc k a) t = Answer.Done (not (any_of (clash k) t))
answer (Effect.Modn k a) t = Answer.Silent
answer (Effect.Dels k) t = Answer.Silent
answer (Effect.Deln m) t = Answer.Silent
answer Effect.Idle t = Answer.Silent

-- the same said of one key: what is found there after an event (proofs/Effects.antt, `get_after`)
abbrev pub overwrite : Action → Option Action → Option Action
overwrite a None = None
overwrite a (Some b) = Some a

unfoldable pub found_after : Effect → Key → Table → Option Action
found_after (Effect.Pkt p) k t = get k t
found_after (Effect.Add j a) k t = cond (same_key k j) (Some a) (get k t)
found_after (Effect.Addc j a) k t = cond (any_of (clash j) t) (get k t) (cond (same_key k j) (Some a) (get k t))
found_after (Effect.Modn j a) k t =
    cond (any_of (inside j.pattern) t)
    (cond (inside j.pattern k) (overwrite a (get k t)) (get k t))
    (cond (same_key k j) (Some a) (get k t))
found_after (Effect.Dels j) k t = cond (same_key j k) None (get k t)
found_after (Effect.Deln m) k t = cond (inside m k) None (get k t)
found_after Effect.Idle k t = get k t

-- the ranges of document 01, for what an event carries
abbrev pub EffectInRange : Effect → Type 0
EffectInRange (Effect.Pkt p) = PacketInRange p
EffectInRange (Effect.Add k a) = KeyInRange k × ActionInRange a
EffectInRange (Effect.Addc k a) = KeyInRange k × ActionInRange a
EffectInRange (Effect.Modn k a) = KeyInRange k × ActionInRange a
EffectInRange (Effect.Dels k) = KeyInRange k
EffectInRange (Effect.Deln m) = MatchInRange m
EffectInRange Effect.Idle = Unit {0}
