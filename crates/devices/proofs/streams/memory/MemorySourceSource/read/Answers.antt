use Rattle.devices.proofs.MemoryLemmas.{given_more, remaining_less, none_at_end}
use Rattle.devices.proofs.streams.memory.MemorySourceSource.read.Goals as goal

pub returns-clause-given : goal.returns-clause-given
returns-clause-given c = given_more _ _ _ _ _ c.split_at.ensures.back c.copy_front-count.ensures.copied

pub returns-clause-remaining : goal.returns-clause-remaining
returns-clause-remaining c = (
  remaining_less _ _ _ _ _ c.split_at.ensures.back c.copy_front-count.ensures.copied,
  λ none has_room. none_at_end _ _ _ _ _ _ c.split_at.ensures.back c.args.self.now.moves has_room c.copy_front-count.ensures.count none,
)
