use Rattle.std.proofs.Common.{◌≡◌, ℕ, ◌+◌, ◌≤◌, ◌<◌, true, false, Bool, List, [], ◌++◌, take, drop, filter, length, sym, ◌∙◌, ap, arith}
use Rattle.std.proofs.lemmas.List.{append_assoc, append-nil}
use Rattle.udp.specs.Waiting.{Waiting}
use Rattle.udp_socket.specs.SocketView.{Outgoing, SocketView}
use Rattle.udp_socket.specs.Stored.{outgoing_of, first_if}
use Rattle.udp_socket.proofs.Due.{shown}
use Rattle.udp_socket.proofs.GivingUp.{stays, length-out, none_given_up, passed, front_is, further, at_end, none_before, parts_stay, first_told, no_parts_of_none}
use Rattle.udp_socket.proofs.socket.UdpSocket.give_up.Goals as goal

pub returns-then-not-gives_up : goal.returns-then-not-gives_up
returns-then-not-gives_up g c = λ test computes.
    none_given_up test c.args.now c.args.self.now
    (no_parts_of_none c.self.inside.tags.items c.self.inside.datagrams.items c.self.inside.inbox.items c.self.inside.parts c.args.self.now c.self.invariant.beside c.self.invariant.parts c.self.view_is)
    (sym (c.gives_up.ensures test computes) ∙ c.if-not-gives_up.true)

pub loop-init : goal.loop-init
loop-init g c =
    let xs : List Outgoing = c.args.self.now.outbox in
    let after = c.pass_first-first_stays.ensures.after in
    let outbox = ap (λ (s : SocketView). s.outbox) after in (
      ap (λ (s : SocketView). s.inbox) after,
      ap (λ (s : SocketView). s.parts) after,
      ([], outbox ∙ ap (λ (os : List Outgoing). drop 1 xs ++ os) (sym (append-nil (first_if c.pass_first-first_stays.result xs)))),
      λ test computes. outbox ∙ ap (λ (os : List Outgoing). drop 1 xs ++ os) (c.pass_first-first_stays.ensures.stays test computes),
    )

pub loop-preserved : goal.loop-preserved
loop-preserved g c =
    let xs : List Outgoing = c.args.self.now.outbox in
    let i : ℕ = c.loop.counter in
    let held : List Outgoing = c.loop.self.outbox in
    let inv = c.loop.invariant in
    let after = c.pass_first.ensures.after in
    let outbox = ap (λ (s : SocketView). s.outbox) after in
    let ys : List Outgoing = first_if c.pass_first.result held in
    let first : List Outgoing = first_if c.pass_first-first_stays.result xs in
    let kept : List Outgoing = inv.2.0 in
    let size = length-out c.self.inside.tags.items c.self.inside.datagrams.items c.self.invariant.beside in
    let seen = ap (λ (s : SocketView). length s.outbox) c.self.view_is in
    let below : i < length xs = omega (arith, size, seen, c.len-waiting.ensures.len, c.loop-test.true) in (
      ap (λ (s : SocketView). s.inbox) after ∙ inv.0,
      ap (λ (s : SocketView). s.parts) after,
      (
        kept ++ ys,
        outbox ∙ ap (λ (os : List Outgoing). drop 1 os ++ ys) inv.2.1 ∙ passed xs (first ++ kept) ys i below
            ∙ ap (λ (os : List Outgoing). drop (i + 1) xs ++ os) (append_assoc first kept ys),
      ),
      λ test computes. let keep : Outgoing → Bool = stays test c.args.now in
          let zs : List Outgoing = filter keep (take i xs) in
          outbox ∙ ap (λ (os : List Outgoing). drop 1 held ++ os) (c.pass_first.ensures.stays test computes)
          ∙ ap (λ (os : List Outgoing). drop 1 os ++ filter keep (take 1 os)) (inv.3 test computes)
          ∙ ap (λ (os : List Outgoing). drop 1 (drop i xs ++ zs) ++ filter keep os) (front_is xs zs i below)
          ∙ passed xs zs (filter keep (take 1 (drop i xs))) i below
          ∙ ap (λ (os : List Outgoing). drop (i + 1) xs ++ os) (further keep xs i),
    )

pub invariant_of-self : goal.invariant_of-self
invariant_of-self g c =
    let xs : List Outgoing = c.args.self.now.outbox in
    let i : ℕ = c.loop.counter in
    let inv = c.loop.invariant in
    let kept : List Outgoing = inv.2.0 in
    let seen = ap (λ (s : SocketView). s.outbox) c.self.view_is in
    let size = length-out c.self.inside.tags.items c.self.inside.datagrams.items c.self.invariant.beside in
    let same = ap (λ (os : List Outgoing). length os) seen in
    let past : length xs ≤ i = omega (arith, size, same, c.len-waiting.ensures.len, c.loop-test.false) in
    let left : outgoing_of c.self-2.inside.tags.items c.self-2.inside.datagrams.items ≡ first_if true (outgoing_of c.self.inside.tags.items c.self.inside.datagrams.items) ++ kept =
    ap (λ (s : SocketView). s.outbox) c.self-2.view_is ∙ inv.2.1 ∙ none_before i xs (first_if c.pass_first-first_stays.result xs ++ kept) past
    ∙ ap (λ (b : Bool). first_if b xs ++ kept) c.if-first_stays.true
    ∙ ap (λ (os : List Outgoing). first_if true os ++ kept) (sym seen) in
    record {
      inbox = c.self-2.invariant.inbox;
      outbox = c.self-2.invariant.outbox;
      places = c.self-2.invariant.places;
      few = c.self-2.invariant.few;
      beside = c.self-2.invariant.beside;
      parts = parts_stay c.self.inside.tags.items c.self-2.inside.tags.items c.self.inside.datagrams.items c.self-2.inside.datagrams.items c.self.inside.parts kept
          c.self.invariant.beside c.self-2.invariant.beside c.self.invariant.parts left;
    }

pub returns-then-first_stays : goal.returns-then-first_stays
returns-then-first_stays g c = λ test computes.
    let old : SocketView = c.args.self.now in
    let xs : List Outgoing = old.outbox in
    let i : ℕ = c.loop.counter in
    let inv = c.loop.invariant in
    let keep : Outgoing → Bool = stays test c.args.now in
    let size = length-out c.self.inside.tags.items c.self.inside.datagrams.items c.self.invariant.beside in
    let same = ap (λ (s : SocketView). length s.outbox) c.self.view_is in
    let past : length xs ≤ i = omega (arith, size, same, c.len-waiting.ensures.len, c.loop-test.false) in
    let none_left = no_parts_of_none c.self.inside.tags.items c.self.inside.datagrams.items c.self.inside.inbox.items c.self.inside.parts old c.self.invariant.beside c.self.invariant.parts c.self.view_is in
    let inbox = ap (λ (s : SocketView). s.inbox) c.self-2.view_is ∙ inv.0 in
    let outbox = ap (λ (s : SocketView). s.outbox) c.self-2.view_is ∙ inv.3 test computes ∙ at_end keep i xs past in
    let first : first_if true xs ≡ filter keep (take 1 xs) = ap (λ (b : Bool). first_if b xs) (sym c.if-first_stays.true) ∙ c.pass_first-first_stays.ensures.stays test computes in
    let parts = ap (λ (s : SocketView). s.parts) c.self.view_is ∙ first_told test c.args.now xs old.parts true none_left first in
    ap (λ (ws : List Waiting). shown ws (outgoing_of c.self-2.inside.tags.items c.self-2.inside.datagrams.items) c.self.inside.parts) inbox
    ∙ ap (λ (os : List Outgoing). shown old.inbox os c.self.inside.parts) outbox
    ∙ ap (λ (n : ℕ). shown old.inbox (filter keep xs) n) parts

pub returns-else-first_stays : goal.returns-else-first_stays
returns-else-first_stays g c = λ test computes.
    let old : SocketView = c.args.self.now in
    let left : SocketView = c.loop.self in
    let xs : List Outgoing = old.outbox in
    let i : ℕ = c.loop.counter in
    let inv = c.loop.invariant in
    let keep : Outgoing → Bool = stays test c.args.now in
    let size = length-out c.self.inside.tags.items c.self.inside.datagrams.items c.self.invariant.beside in
    let same = ap (λ (s : SocketView). length s.outbox) c.self.view_is in
    let past : length xs ≤ i = omega (arith, size, same, c.len-waiting.ensures.len, c.loop-test.false) in
    let none_left = no_parts_of_none c.self.inside.tags.items c.self.inside.datagrams.items c.self.inside.inbox.items c.self.inside.parts old c.self.invariant.beside c.self.invariant.parts c.self.view_is in
    let outbox = inv.3 test computes ∙ at_end keep i xs past in
    let first : first_if false xs ≡ filter keep (take 1 xs) = ap (λ (b : Bool). first_if b xs) (sym c.if-first_stays.false) ∙ c.pass_first-first_stays.ensures.stays test computes in
    let parts = inv.1 ∙ first_told test c.args.now xs old.parts false none_left first in
    ap (λ (ws : List Waiting). shown ws left.outbox left.parts) inv.0
    ∙ ap (λ (os : List Outgoing). shown old.inbox os left.parts) outbox
    ∙ ap (λ (n : ℕ). shown old.inbox (filter keep xs) n) parts
