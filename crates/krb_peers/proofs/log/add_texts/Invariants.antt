use Rattle.std.proofs.Common.{◌≡◌, ◌≤◌, ◌+◌, ◌++◌, length, map, vec_len, vec_capacity}
use Rattle.krb_peers.specs.Log.{entries_for}
use Rattle.krb_peers.specs.declared.log.Event.TheVariants.{Text}
use Rattle.krb_peers.proofs.log.add_texts.Given as goal

-- an entry for each text so far, and there is room for the others
abbrev pub invariant-loop-text : goal.invariant-loop-text
invariant-loop-text l =
    (l.entries.items ≡ l.fn.entries.items ++ entries_for l.lane (map Text l.yielded))
    × (vec_len l.fn.entries + length l.fn.texts.items ≤ vec_capacity l.entries) × (vec_len l.entries ≡ vec_len l.fn.entries + length l.yielded)
