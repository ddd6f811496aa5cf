-- Inner: a table of at most one entry that tells apart the two orders of each pair that does not commute.
use Rattle.std.specs.Prelude.{cond, [], ◌∷◌}
use Rattle.commuting.specs.Commuting.{at}
use Rattle.flow.specs.Inner.{meet}
use Rattle.flow.specs.Entries.{same_action}
use Rattle.flow_table.specs.FlowTable.{Table, entry}
use Rattle.commuting.specs.Types.{Action, Key, Effect}

-- ---- a table of at most one entry that tells the two orders apart, where the test says no
abbrev pub one : Key → Table
one k = entry k Action.Drop ∷ []

unfoldable pub witness : Effect → Effect → Table
witness Effect.Idle w = []
witness (Effect.Pkt p) Effect.Idle = []
witness (Effect.Pkt p) (Effect.Pkt q) = []
witness (Effect.Pkt p) (Effect.Add k b) = []
witness (Effect.Pkt p) (Effect.Addc k b) = []
witness (Effect.Pkt p) (Effect.Modn k b) = []
witness (Effect.Pkt p) (Effect.Dels k) = one k
witness (Effect.Pkt p) (Effect.Deln m) = one (at 0 m)
witness (Effect.Add j a) w = []
witness (Effect.Addc j a) Effect.Idle = []
witness (Effect.Addc j a) (Effect.Pkt p) = []
witness (Effect.Addc j a) (Effect.Add k b) = []
witness (Effect.Addc j a) (Effect.Addc k b) = []
witness (Effect.Addc j a) (Effect.Modn k b) = []
witness (Effect.Addc j a) (Effect.Dels k) = one k
witness (Effect.Addc j a) (Effect.Deln m) = one (at j.priority (meet j.pattern m))
witness (Effect.Modn j a) Effect.Idle = []
witness (Effect.Modn j a) (Effect.Pkt p) = []
witness (Effect.Modn j a) (Effect.Add k b) = []
witness (Effect.Modn j a) (Effect.Addc k b) = []
witness (Effect.Modn j a) (Effect.Modn k b) = cond (same_action a b) [] (one (at 0 (meet j.pattern k.pattern)))
witness (Effect.Modn j a) (Effect.Dels k) = one k
witness (Effect.Modn j a) (Effect.Deln m) = one (at 0 (meet j.pattern m))
witness (Effect.Dels j) Effect.Idle = []
witness (Effect.Dels j) (Effect.Pkt p) = one j
witness (Effect.Dels j) (Effect.Add k b) = []
witness (Effect.Dels j) (Effect.Addc k b) = one j
witness (Effect.Dels j) (Effect.Modn k b) = one j
witness (Effect.Dels j) (Effect.Dels k) = []
witness (Effect.Dels j) (Effect.Deln m) = []
witness (Effect.Deln m) Effect.Idle = []
witness (Effect.Deln m) (Effect.Pkt p) = one (at 0 m)
witness (Effect.Deln m) (Effect.Add k b) = []
witness (Effect.Deln m) (Effect.Addc k b) = one (at k.priority (meet k.pattern m))
witness (Effect.Deln m) (Effect.Modn k b) = one (at 0 (meet k.pattern m))
witness (Effect.Deln m) (Effect.Dels k) = []
witness (Effect.Deln m) (Effect.Deln n) = []
