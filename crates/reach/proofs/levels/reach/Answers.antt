use Rattle.std.proofs.Common.{length, sym, ap, ◌∙◌, arith}
use Rattle.std.proofs.lemmas.Grind.{common_steps}
use Rattle.reach.proofs.Spread.{seeded_none, seeded_all}
use Rattle.reach.proofs.levels.reach.Goals as goal

pub seed-requires-clause-none : goal.seed-requires-clause-none
seed-requires-clause-none c =
    seeded_none _ _ _ _ _ c.new-list.ensures.empty (ap length c.new-list.ensures.kept ∙ c.requires.queue ∙ sym c.requires.lack)
    (c.fill.ensures.len ∙ c.requires.distance ∙ sym c.requires.lack) (λ v l. grind (arith, common_steps))

pub spread-requires : goal.spread-requires
spread-requires c = (seeded_all c.requires.lack c.seed.ensures).front _ _
