use Rattle.std.proofs.Common.{refl, sym, ◌∙◌}
use Rattle.net_rows.proofs.Sound.{exactly}
use Rattle.net_rows.proofs.view.SoundNet.judge.Goals as goal

pub returns-then-are_sound-clause-facts : goal.returns-then-are_sound-clause-facts
returns-then-are_sound-clause-facts c = (λ e. (exactly _ _ _).0 (sym c.are_sound.ensures ∙ c.if-are_sound.true), λ f. refl)

pub returns-else-are_sound-clause-facts : goal.returns-else-are_sound-clause-facts
returns-else-are_sound-clause-facts c = (λ e. cc, λ f. sym c.if-are_sound.false ∙ (c.are_sound.ensures ∙ (exactly _ _ _).1 f))
