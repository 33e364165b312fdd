use Rattle.std.proofs.Common.{◌≡◌, take, string_bytes}
use Rattle.verdicts.specs.Showing.{shown_bytes}
use Rattle.verdicts.proofs.showing.shown.Given as goal

abbrev pub invariant-loop-byte : goal.invariant-loop-byte
invariant-loop-byte l = string_bytes l.text ≡ shown_bytes (take l.byte-index l.bytes)
