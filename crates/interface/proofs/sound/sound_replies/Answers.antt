-- One reply more is sound, and at the end all are.
use Rattle.std.proofs.Common.{◌≡◌, ℕ, length, arith, subst}
use Rattle.std.proofs.lemmas.List.Elements.{at_read, AllWithin-more, AllWithin-none, All-from_all_within, recursion_from_All}
use Rattle.std.specs.List.{AllWithin}
use Rattle.ipv4.specs.declared.addr.Addr.{Addr}
use Rattle.interface.specs.declared.reply.Waiting.{Waiting}
use Rattle.interface.specs.Sound.{IsSoundReply}
use Rattle.interface.proofs.sound.sound_replies.Goals as goal

abbrev IsSoundWaiting : Addr → Waiting → Type 0
IsSoundWaiting own w = IsSoundReply own w.reply

pub loop-waiting-init : goal.loop-waiting-init
loop-waiting-init c = AllWithin-none (IsSoundWaiting c.args.own) c.args.replies.now 0

pub loop-waiting-preserved : goal.loop-waiting-preserved
loop-waiting-preserved c =
    AllWithin-more (IsSoundWaiting c.args.own) c.args.replies.now 0 c.loop-waiting.waiting-index c.loop-waiting.invariant
    (at_read c.args.replies.now (IsSoundWaiting c.args.own) c.loop-waiting.waiting-index c.waiting-item.result (omega arith) c.waiting-item.is c.sound_reply.ensures)

pub returns : goal.returns
returns c =
    let all : c.loop-waiting.waiting-index ≡ length c.args.replies.now = omega arith in
    recursion_from_All (IsSoundWaiting c.args.own) c.args.replies.now
    (All-from_all_within (IsSoundWaiting c.args.own) c.args.replies.now (subst (λ (n : ℕ). AllWithin (IsSoundWaiting c.args.own) c.args.replies.now 0 n) all c.loop-waiting.invariant))
