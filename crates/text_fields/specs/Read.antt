-- Document 01, "Trace text" and "Tables and replay": reading the parts of a line. That each reader reads the texts of
-- Print.antt and no others is proved in proofs/.
use Rattle.std.specs.Prelude.{ℕ}
use Rattle.basics.specs.Text.{bytes}
use Rattle.text_numbers.specs.Reading.{Reader, mapped, keyed, word_or, both}
use Rattle.text_numbers.specs.Number.{read_number, read_hex}
use Rattle.text_fields.specs.Types.{Exact, Prefix, Match, Packet, Action, Key, Entry}

-- `*`, or a number at most max
unfoldable pub read_exact : ℕ → Reader Exact
read_exact max = word_or (bytes "*") Exact.Any (mapped Exact.Is (read_number max))

-- eight hexadecimal digits, `/`, a length at most 32
unfoldable pub read_prefix : Reader Prefix
read_prefix = mapped (λ (v, n). record { value = v; length = n }) (both read_hex (keyed (bytes "/") (read_number 32)))

-- protocol and ports, by how a number at most so large is read
unfoldable pub read_last : {N : Type 0} → (ℕ → Reader N) → Reader (N × (N × N))
read_last number = both (keyed (bytes " proto=") (number 255)) (both (keyed (bytes " sport=") (number 65535)) (keyed (bytes " dport=") (number 65535)))

-- the fields, by how a number and an address is read
unfoldable pub read_fields : {N A : Type 0} → (ℕ → Reader N) → Reader A → Reader (N × (N × (A × (A × (N × (N × N))))))
read_fields number address =
    both (keyed (bytes " port=") (number 65535))
    (both (keyed (bytes " vlan=") (number 4095))
    (both (keyed (bytes " src=") address)
    (both (keyed (bytes " dst=") address)
    (read_last number))))

abbrev pub match_from : Exact × (Exact × (Prefix × (Prefix × (Exact × (Exact × Exact))))) → Match
match_from (port, (vlan, (src, (dst, (proto, (sport, dport)))))) = record { port = port; vlan = vlan; src = src; dst = dst; proto = proto; sport = sport; dport = dport }

unfoldable pub read_match : Reader Match
read_match = mapped match_from (read_fields read_exact read_prefix)

abbrev pub packet_from : ℕ × (ℕ × (ℕ × (ℕ × (ℕ × (ℕ × ℕ))))) → Packet
packet_from (port, (vlan, (src, (dst, (proto, (sport, dport)))))) = record { port = port; vlan = vlan; src = src; dst = dst; proto = proto; sport = sport; dport = dport }

-- all exact
unfoldable pub read_packet : Reader Packet
read_packet = mapped packet_from (read_fields read_number read_hex)

-- `drop`, `ctl` or `pN`
unfoldable pub read_action : Reader Action
read_action = word_or (bytes "drop") Action.Drop (word_or (bytes "ctl") Action.Controller (mapped Action.Port (keyed (bytes "p") (read_number 65535))))

-- priority, then match
unfoldable pub read_key : Reader Key
read_key = mapped (λ (n, m). record { priority = n; pattern = m }) (both (keyed (bytes " prio=") (read_number 65535)) read_match)

-- key, then action
unfoldable pub read_entry : Reader Entry
read_entry = mapped (λ (k, a). record { key = k; action = a }) (both read_key (keyed (bytes " act=") read_action))
