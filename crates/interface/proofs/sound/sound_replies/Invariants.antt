-- The replies that the loop has passed are sound.
use Rattle.std.specs.List.{AllWithin}
use Rattle.interface.specs.declared.reply.Waiting.{Waiting}
use Rattle.interface.specs.Sound.{IsSoundReply}
use Rattle.interface.proofs.sound.sound_replies.Given as goal

abbrev pub invariant-loop-waiting : goal.invariant-loop-waiting
invariant-loop-waiting l = AllWithin (λ (w : Waiting). IsSoundReply l.own w.reply) l.replies 0 l.waiting-index
