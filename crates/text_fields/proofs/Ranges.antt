-- What is written, and has no address bit past its prefix, is in range; and the other way round.
use mathlib.Core.Bool.{true, and-eq-true_iff}
use mathlib.Core.Logic.{◌↔◌}
use mathlib.Core.Path.{◌≡◌}
use Rattle.flow.specs.Matches.{prefix_clear, clear, PrefixInRange, MatchInRange}
use Rattle.flow.specs.Entries.{KeyInRange, EntryInRange}
use Rattle.text_fields.specs.Types.{Prefix, Match, Key, Entry}
use Rattle.text_fields.specs.Written.{PrefixWritten, MatchWritten, KeyWritten, EntryWritten, clear_key, clear_entry}

prefix_range : (p : Prefix) → (PrefixWritten p × (prefix_clear p ≡ true)) ↔ PrefixInRange p
prefix_range p = (
  λ (w, c). record { value = w.value; length = w.length; clear = c },
  λ r. (record { value = r.value; length = r.length }, r.clear),
)

clear_both : (m : Match) → (clear m ≡ true) ↔ ((prefix_clear m.src ≡ true) × (prefix_clear m.dst ≡ true))
unfolding clear
clear_both m = and-eq-true_iff (prefix_clear m.src) (prefix_clear m.dst)

pub match_range : (m : Match) → (MatchWritten m × (clear m ≡ true)) ↔ MatchInRange m
match_range m = (
  λ (w, c). let (src, dst) = (clear_both m).0 c in
      record {
        port = w.port;
        vlan = w.vlan;
        src = (prefix_range m.src).0 (w.src, src);
        dst = (prefix_range m.dst).0 (w.dst, dst);
        proto = w.proto;
        sport = w.sport;
        dport = w.dport;
      },
  λ r. (
    record {
      port = r.port;
      vlan = r.vlan;
      src = ((prefix_range m.src).1 r.src).0;
      dst = ((prefix_range m.dst).1 r.dst).0;
      proto = r.proto;
      sport = r.sport;
      dport = r.dport;
    },
    (clear_both m).1 (r.src.clear, r.dst.clear),
  ),
)

pub key_range : (k : Key) → (KeyWritten k × (clear_key k ≡ true)) ↔ KeyInRange k
key_range k = (
  λ (w, c). record { priority = w.priority; pattern = (match_range k.pattern).0 (w.pattern, c) },
  λ r. let (w, c) = (match_range k.pattern).1 r.pattern in (record { priority = r.priority; pattern = w }, c),
)

pub entry_range : (e : Entry) → (EntryWritten e × (clear_entry e ≡ true)) ↔ EntryInRange e
entry_range e = (
  λ (w, c). record { key = (key_range e.key).0 (w.key, c); action = w.action },
  λ r. let (w, c) = (key_range e.key).1 r.key in (record { key = w; action = r.action }, c),
)
