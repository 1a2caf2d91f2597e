-- The replies from the place on stay, and those that are gone do not.
use Rattle.std.proofs.Common.{◌≡◌, ◌≤◌, Bool, not, ◌&&◌, List, length, drop, filter}
use Rattle.arp.specs.Cache.{Cache}
use Rattle.clock.specs.declared.moment.Moment.{Moment}
use Rattle.routes.specs.declared.route.Route.{Route}
use Rattle.interface.specs.declared.reply.Waiting.{Waiting}
use Rattle.interface.specs.Timing.{is_unknown, is_over, sought}
use Rattle.interface.proofs.timing.drop_over.Given as goal

abbrev pub stays_over : List Route → Cache → Moment → Waiting → Bool
stays_over routes cache now w = not (is_unknown routes cache now (sought w.reply) && is_over now w)

abbrev pub invariant-loop-place : goal.invariant-loop-place
invariant-loop-place l =
    (l.place ≤ length l.replies.replies)
    × (filter (stays_over l.routes l.cache l.now) l.replies.replies ≡ filter (stays_over l.routes l.cache l.now) l.initial.replies.replies)
    × (filter (stays_over l.routes l.cache l.now) (drop l.place l.replies.replies) ≡ drop l.place l.replies.replies)
    × (l.replies.most ≡ l.initial.replies.most)
