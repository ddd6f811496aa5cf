-- Document 01, "Trace text" and "Tables and replay": the texts of the parts of a line. Each item has its space in front.
use Rattle.std.specs.Prelude.{ℕ, List, ◌++◌}
use Rattle.basics.specs.Text.{bytes}
use Rattle.text_numbers.specs.Print.{print_number, print_hex}
use Rattle.text_fields.specs.Types.{Exact, Prefix, Match, Packet, Action, Key, Entry}

-- `*`, or a number
unfoldable pub print_exact : Exact → List ℕ
print_exact Exact.Any = bytes "*"
print_exact (Exact.Is v) = print_number v

-- eight hexadecimal digits, `/`, the length
unfoldable pub print_prefix : Prefix → List ℕ
print_prefix p = print_hex p.value ++ (bytes "/" ++ print_number p.length)

-- the last three fields, by how a number is printed
unfoldable pub print_last : {N : Type 0} → (N → List ℕ) → N → N → N → List ℕ
print_last number proto sport dport = (bytes " proto=" ++ number proto) ++ ((bytes " sport=" ++ number sport) ++ (bytes " dport=" ++ number dport))

-- the fields, by how a number and an address is printed
unfoldable pub print_fields : {N A : Type 0} → (N → List ℕ) → (A → List ℕ) → N → N → A → A → N → N → N → List ℕ
print_fields number address port vlan src dst proto sport dport =
    (bytes " port=" ++ number port)
    ++ ((bytes " vlan=" ++ number vlan)
    ++ ((bytes " src=" ++ address src)
    ++ ((bytes " dst=" ++ address dst)
    ++ print_last number proto sport dport)))

unfoldable pub print_match : Match → List ℕ
print_match m = print_fields print_exact print_prefix m.port m.vlan m.src m.dst m.proto m.sport m.dport

-- all exact
unfoldable pub print_packet : Packet → List ℕ
print_packet p = print_fields print_number print_hex p.port p.vlan p.src p.dst p.proto p.sport p.dport

-- `drop`, `ctl` or `pN`
unfoldable pub print_action : Action → List ℕ
print_action Action.Drop = bytes "drop"
print_action Action.Controller = bytes "ctl"
print_action (Action.Port n) = bytes "p" ++ print_number n

-- priority, then match
unfoldable pub print_key : Key → List ℕ
print_key k = (bytes " prio=" ++ print_number k.priority) ++ print_match k.pattern

-- key, then action
unfoldable pub print_entry : Entry → List ℕ
print_entry e = print_key e.key ++ (bytes " act=" ++ print_action e.action)
