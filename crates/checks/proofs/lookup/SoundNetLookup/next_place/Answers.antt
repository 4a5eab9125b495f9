use Rattle.net_rows.proofs.Sound.{sound_facts}
use Rattle.checks.proofs.lookup.SoundNetLookup.next_place.Goals as goal

pub next_place-requires-clause-sound : goal.next_place-requires-clause-sound
next_place-requires-clause-sound c = (sound_facts _ _ _ c.args.self.now.sound).each_node
