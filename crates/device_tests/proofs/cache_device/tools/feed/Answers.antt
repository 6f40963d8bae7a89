use Rattle.std.proofs.Common.{◌+◌, refl, arith}
use Rattle.l2_ring.specs.Ring.{RingState, IsRoom, IsSound}
use Rattle.device_tests.proofs.cache_device.tools.feed.Goals as goal

room_for_one : (ring : RingState) → IsSound ring → IsRoom ring (512 + 65536)
room_for_one ring sound = let long = sound.ends.long in record { some = omega arith; aligned = refl; fits = omega arith }

pub begin-requires-clause-room : goal.begin-requires-clause-room
begin-requires-clause-room g c = λ κs le. room_for_one c.args.l2.now.cursor.ring c.ring-ring.ensures.kept.sound
