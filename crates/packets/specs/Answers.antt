-- What mending packets answers, as the papers' number and values, and the causes before it. Assumes nothing.
use Rattle.std.specs.Prelude.{ℕ, List, [], ◌∷◌, ◌++◌}
use Rattle.parity.specs.Causes.{Reply, loss_values, refusal, refuse}
use Rattle.parity.specs.Calls.{wrong_byte, wrong_place}
use Rattle.parity.specs.Packets.{wrong_lengths}
use Rattle.packets.specs.declared.MendedPackets.{MendedPackets}

abbrev pub mended_packets_values : MendedPackets → List ℕ
mended_packets_values x = loss_values x.losses ++ (x.odd_lanes ∷ [])

-- causes 10 and 11
unfoldable pub lists_reply : ℕ → List ℕ → List ℕ → ℕ → Reply → Reply
lists_reply N lost packets L after = refuse (wrong_lengths N L lost packets) (refusal 10 []) (refuse (wrong_byte 1 lost) (refusal 11 (wrong_place 1 lost ∷ [])) after)
