use Rattle.std.proofs.Common.{arith, length, ℕ, ◌≡◌, option_map, true, false, Option, Some, None, refl, sym, ◌∙◌, ap, subst}
use Rattle.ipv4.specs.Datagram.{Datagram}
use Rattle.clock.specs.declared.moment.Moment.{Moment}
use Rattle.reassembly.specs.declared.gathered.Gathered.{Gathered}
use Rattle.reassembly.specs.declared.pending.Pending.{Pending}
use Rattle.reassembly.specs.declared.assembled.Loss.TheVariants.{GivenUp as LossGivenUp}
use Rattle.reassembly.specs.declared.assembled.Assembled.TheVariants.{Waiting, Whole, Dropped}
use Rattle.reassembly.specs.Buffers.{BufferView}
use Rattle.reassembly.specs.Fragments.{begin_of}
use Rattle.reassembly.specs.Inside.{PlaceView, seen, place_seen, EndsWithin}
use Rattle.reassembly.specs.Octets.{laid, whole_of, filled}
use Rattle.reassembly.specs.Reassembly.{Reassembly, conflicts, continued, left, outcome_within, Answers, with_fragment, end_after, quote_after, quoted}
use Rattle.reassembly.specs.Reassembly.Outcome.{Waits, Completes, GivesUp}
use Rattle.reassembly.proofs.Outcomes.{agrees, gives_up, end_is_within, within_given_up, within_completes, within_waits, within_continued, stays_within}
use Rattle.reassembly.proofs.place.Place.take.Goals as goal

-- what was put together is that of the place, or begins now
resumed : (now : Moment) (d : Datagram) (s : Reassembly) (taken inside : Option Pending) (gathered : Gathered) (place : PlaceView)
    → s ≡ continued now d (place_seen taken gathered).datagram → taken ≡ inside → place_seen inside gathered ≡ place → s ≡ continued now d place.datagram
resumed now d s taken inside gathered place e t v =
    e ∙ ap (λ p. continued now d (place_seen p gathered).datagram) t ∙ ap (λ (p : PlaceView). continued now d p.datagram) v

-- no octet of it stands past the end
within : (now : Moment) (d : Datagram) (s : Reassembly) (place : Option Reassembly) → s ≡ continued now d place → EndsWithin place → EndsWithin (Some s)
within now d s place e h = subst (λ r. EndsWithin (Some r)) (sym e) (within_continued now d place h)

still_within : (d : Datagram) (r next : Reassembly) → next ≡ with_fragment r d → EndsWithin (Some r) → conflicts d r.end (length r.octets) ≡ false
    → EndsWithin (Some next)
still_within d r next is h agree = subst (λ z. EndsWithin (Some z)) (sym is) (stays_within d r h agree)

-- what is noted and gathered is the reassembly with the fragment
noted : (d : Datagram) (old new : Pending) (before after : Gathered) → new ≡ record old { end = end_after d old.end }
    → after.octets ≡ record before.octets { octets = laid (begin_of d) d.payload before.octets.octets } → after.quote ≡ quote_after d before.quote
    → seen after new ≡ with_fragment (seen before old) d
noted d old new before after n l q =
    ap (seen after) n
    ∙ ap (λ octets. seen (record { octets = octets; quote = after.quote }) (record old { end = end_after d old.end })) l
    ∙ ap (λ quote. seen (record { octets = record before.octets { octets = laid (begin_of d) d.payload before.octets.octets }; quote = quote })
    (record old { end = end_after d old.end })) q

-- what a place shows, where what is put together there changes
shown : (room : ℕ) (old new : Option Reassembly) (place : PlaceView) → room ≡ place.room → old ≡ new
    → record place { room = room; datagram = old } ≡ record place { datagram = new }
shown room old new place e f = ap (λ r. record place { room = r; datagram = old }) e ∙ ap (λ datagram. record place { datagram = datagram }) f

pub returns-then-is_given_up : goal.returns-then-is_given_up
returns-then-is_given_up c =
    let is = resumed c.args.now c.args.fragment.now (seen c.resume-pending.new.gathered c.resume-pending.result) c.take.result c.self.inside.pending
    c.self.inside.gathered c.args.self.now c.resume-pending.ensures.datagram c.take.ensures.value c.self.view_is in
    let room : c.resume-pending.new.gathered.octets.room ≡ c.args.self.now.room = c.resume-pending.ensures.room ∙ ap (λ (p : PlaceView). p.room) c.self.view_is in
    let told : c.is_given_up.result
    ≡ gives_up c.resume-pending.new.gathered.octets.room c.args.fragment.now (seen c.resume-pending.new.gathered c.resume-pending.result) = c.is_given_up.ensures in
    let conflict : gives_up c.args.self.now.room c.args.fragment.now (seen c.resume-pending.new.gathered c.resume-pending.result) ≡ true =
    ap (λ n. gives_up n c.args.fragment.now (seen c.resume-pending.new.gathered c.resume-pending.result)) (sym room) ∙ sym told ∙ c.if-is_given_up.true in
    let given_up : outcome_within c.args.self.now.room c.args.fragment.now (continued c.args.now c.args.fragment.now c.args.self.now.datagram) ≡ GivesUp =
    ap (outcome_within c.args.self.now.room c.args.fragment.now) (sym is)
    ∙ within_given_up c.args.self.now.room c.args.fragment.now (seen c.resume-pending.new.gathered c.resume-pending.result) conflict in (
      (
        refl,
        (λ _. tt),
        shown c.resume-pending.new.gathered.octets.room _
            (left (outcome_within c.args.self.now.room c.args.fragment.now (continued c.args.now c.args.fragment.now c.args.self.now.datagram))) c.args.self.now room
            (grind (arith, c.take.ensures.after, ap left given_up)),
      ),
      record { answer = subst (λ o. Answers o (Dropped LossGivenUp)) (sym given_up) refl; place = tt },
    )

pub add-requires : goal.add-requires
add-requires c =
    let is = resumed c.args.now c.args.fragment.now (seen c.resume-pending.new.gathered c.resume-pending.result) c.take.result c.self.inside.pending
    c.self.inside.gathered c.args.self.now c.resume-pending.ensures.datagram c.take.ensures.value c.self.view_is in
    let room : c.resume-pending.new.gathered.octets.room ≡ c.args.self.now.room = c.resume-pending.ensures.room ∙ ap (λ (p : PlaceView). p.room) c.self.view_is in
    let told : c.is_given_up.result
    ≡ gives_up c.resume-pending.new.gathered.octets.room c.args.fragment.now (seen c.resume-pending.new.gathered c.resume-pending.result) = c.is_given_up.ensures in
    let agree : gives_up c.args.self.now.room c.args.fragment.now (seen c.resume-pending.new.gathered c.resume-pending.result) ≡ false =
    ap (λ n. gives_up n c.args.fragment.now (seen c.resume-pending.new.gathered c.resume-pending.result)) (sym room) ∙ sym told ∙ c.if-is_given_up.false in
    omega (
      arith,
      end_is_within c.args.self.now.room c.args.fragment.now (agrees c.args.self.now.room c.args.fragment.now (seen c.resume-pending.new.gathered c.resume-pending.result) agree).0,
      room,
    )

pub is_whole-requires : goal.is_whole-requires
is_whole-requires c =
    let is = resumed c.args.now c.args.fragment.now (seen c.resume-pending.new.gathered c.resume-pending.result) c.take.result c.self.inside.pending
    c.self.inside.gathered c.args.self.now c.resume-pending.ensures.datagram c.take.ensures.value c.self.view_is in
    let room : c.resume-pending.new.gathered.octets.room ≡ c.args.self.now.room = c.resume-pending.ensures.room ∙ ap (λ (p : PlaceView). p.room) c.self.view_is in
    let told : c.is_given_up.result
    ≡ gives_up c.resume-pending.new.gathered.octets.room c.args.fragment.now (seen c.resume-pending.new.gathered c.resume-pending.result) = c.is_given_up.ensures in
    let agree : gives_up c.args.self.now.room c.args.fragment.now (seen c.resume-pending.new.gathered c.resume-pending.result) ≡ false =
    ap (λ n. gives_up n c.args.fragment.now (seen c.resume-pending.new.gathered c.resume-pending.result)) (sym room) ∙ sym told ∙ c.if-is_given_up.false in
    let next = noted c.args.fragment.now c.resume-pending.result c.note_end.new.self c.resume-pending.new.gathered c.add.new.self
    c.note_end.ensures c.add.ensures.octets c.add.ensures.quote in
    let start = within c.args.now c.args.fragment.now (seen c.resume-pending.new.gathered c.resume-pending.result) c.args.self.now.datagram is
    (subst (λ (p : PlaceView). EndsWithin p.datagram) c.self.view_is c.self.invariant) in
    let apart = agrees c.args.self.now.room c.args.fragment.now (seen c.resume-pending.new.gathered c.resume-pending.result) agree in
    still_within c.args.fragment.now (seen c.resume-pending.new.gathered c.resume-pending.result) (seen c.add.new.self c.note_end.new.self) next start apart.1

pub returns-then-is_whole : goal.returns-then-is_whole
returns-then-is_whole c =
    let is = resumed c.args.now c.args.fragment.now (seen c.resume-pending.new.gathered c.resume-pending.result) c.take.result c.self.inside.pending
    c.self.inside.gathered c.args.self.now c.resume-pending.ensures.datagram c.take.ensures.value c.self.view_is in
    let room : c.resume-pending.new.gathered.octets.room ≡ c.args.self.now.room = c.resume-pending.ensures.room ∙ ap (λ (p : PlaceView). p.room) c.self.view_is in
    let told : c.is_given_up.result
    ≡ gives_up c.resume-pending.new.gathered.octets.room c.args.fragment.now (seen c.resume-pending.new.gathered c.resume-pending.result) = c.is_given_up.ensures in
    let agree : gives_up c.args.self.now.room c.args.fragment.now (seen c.resume-pending.new.gathered c.resume-pending.result) ≡ false =
    ap (λ n. gives_up n c.args.fragment.now (seen c.resume-pending.new.gathered c.resume-pending.result)) (sym room) ∙ sym told ∙ c.if-is_given_up.false in
    let next = noted c.args.fragment.now c.resume-pending.result c.note_end.new.self c.resume-pending.new.gathered c.add.new.self
    c.note_end.ensures c.add.ensures.octets c.add.ensures.quote in
    let kept : c.add.new.self.octets.room ≡ c.args.self.now.room = ap (λ (b : BufferView). b.room) c.add.ensures.octets ∙ room in
    let there : whole_of c.note_end.new.self.end c.add.new.self.octets.octets ≡ Some (filled c.add.new.self.octets.octets) = c.if-is_whole.ensures.whole in
    let completes : outcome_within c.args.self.now.room c.args.fragment.now (continued c.args.now c.args.fragment.now c.args.self.now.datagram)
    ≡ Completes (filled c.add.new.self.octets.octets) (quoted c.add.new.self.quote) =
    ap (outcome_within c.args.self.now.room c.args.fragment.now) (sym is)
    ∙ within_completes c.args.self.now.room c.args.fragment.now (seen c.resume-pending.new.gathered c.resume-pending.result) (filled c.add.new.self.octets.octets) agree
    (ap (λ (r : Reassembly). whole_of r.end r.octets) (sym next) ∙ there)
    ∙ ap (λ (r : Reassembly). Completes (filled c.add.new.self.octets.octets) (quoted r.quote)) (sym next) in (
      (
        refl,
        (λ _. tt),
        shown c.add.new.self.octets.room (option_map (seen c.add.new.self) c.take.new.self)
            (left (outcome_within c.args.self.now.room c.args.fragment.now (continued c.args.now c.args.fragment.now c.args.self.now.datagram))) c.args.self.now kept
            (ap (option_map (seen c.add.new.self)) c.take.ensures.after ∙ ap left (sym completes)),
      ),
      record { answer = subst (λ o. Answers o (Whole c.whole.result)) (sym completes) (c.whole.ensures.octets, c.whole.ensures.quote); place = tt },
    )

pub invariant_of-self-2 : goal.invariant_of-self-2
invariant_of-self-2 c =
    let is = resumed c.args.now c.args.fragment.now (seen c.resume-pending.new.gathered c.resume-pending.result) c.take.result c.self.inside.pending
    c.self.inside.gathered c.args.self.now c.resume-pending.ensures.datagram c.take.ensures.value c.self.view_is in
    let room : c.resume-pending.new.gathered.octets.room ≡ c.args.self.now.room = c.resume-pending.ensures.room ∙ ap (λ (p : PlaceView). p.room) c.self.view_is in
    let told : c.is_given_up.result
    ≡ gives_up c.resume-pending.new.gathered.octets.room c.args.fragment.now (seen c.resume-pending.new.gathered c.resume-pending.result) = c.is_given_up.ensures in
    let agree : gives_up c.args.self.now.room c.args.fragment.now (seen c.resume-pending.new.gathered c.resume-pending.result) ≡ false =
    ap (λ n. gives_up n c.args.fragment.now (seen c.resume-pending.new.gathered c.resume-pending.result)) (sym room) ∙ sym told ∙ c.if-is_given_up.false in
    let next = noted c.args.fragment.now c.resume-pending.result c.note_end.new.self c.resume-pending.new.gathered c.add.new.self
    c.note_end.ensures c.add.ensures.octets c.add.ensures.quote in
    let start = within c.args.now c.args.fragment.now (seen c.resume-pending.new.gathered c.resume-pending.result) c.args.self.now.datagram is
    (subst (λ (p : PlaceView). EndsWithin p.datagram) c.self.view_is c.self.invariant) in
    let apart = agrees c.args.self.now.room c.args.fragment.now (seen c.resume-pending.new.gathered c.resume-pending.result) agree in
    still_within c.args.fragment.now (seen c.resume-pending.new.gathered c.resume-pending.result) (seen c.add.new.self c.note_end.new.self) next start apart.1

pub returns : goal.returns
returns c =
    let is = resumed c.args.now c.args.fragment.now (seen c.resume-pending.new.gathered c.resume-pending.result) c.take.result c.self.inside.pending
    c.self.inside.gathered c.args.self.now c.resume-pending.ensures.datagram c.take.ensures.value c.self.view_is in
    let room : c.resume-pending.new.gathered.octets.room ≡ c.args.self.now.room = c.resume-pending.ensures.room ∙ ap (λ (p : PlaceView). p.room) c.self.view_is in
    let told : c.is_given_up.result
    ≡ gives_up c.resume-pending.new.gathered.octets.room c.args.fragment.now (seen c.resume-pending.new.gathered c.resume-pending.result) = c.is_given_up.ensures in
    let agree : gives_up c.args.self.now.room c.args.fragment.now (seen c.resume-pending.new.gathered c.resume-pending.result) ≡ false =
    ap (λ n. gives_up n c.args.fragment.now (seen c.resume-pending.new.gathered c.resume-pending.result)) (sym room) ∙ sym told ∙ c.if-is_given_up.false in
    let next = noted c.args.fragment.now c.resume-pending.result c.note_end.new.self c.resume-pending.new.gathered c.add.new.self
    c.note_end.ensures c.add.ensures.octets c.add.ensures.quote in
    let kept : c.add.new.self.octets.room ≡ c.args.self.now.room = ap (λ (b : BufferView). b.room) c.add.ensures.octets ∙ room in
    let not_yet : whole_of c.note_end.new.self.end c.add.new.self.octets.octets ≡ None = c.if-is_whole.ensures.waits in
    let waits : outcome_within c.args.self.now.room c.args.fragment.now (continued c.args.now c.args.fragment.now c.args.self.now.datagram)
    ≡ Waits (seen c.add.new.self c.note_end.new.self) =
    ap (outcome_within c.args.self.now.room c.args.fragment.now) (sym is)
    ∙ within_waits c.args.self.now.room c.args.fragment.now (seen c.resume-pending.new.gathered c.resume-pending.result) agree
    (ap (λ (r : Reassembly). whole_of r.end r.octets) (sym next) ∙ not_yet)
    ∙ ap (λ r. Waits r) (sym next) in (
      (
        refl,
        (λ _. tt),
        shown c.add.new.self.octets.room (Some (seen c.add.new.self c.note_end.new.self))
            (left (outcome_within c.args.self.now.room c.args.fragment.now (continued c.args.now c.args.fragment.now c.args.self.now.datagram))) c.args.self.now kept (ap left (sym waits)),
      ),
      record { answer = subst (λ o. Answers o Waiting) (sym waits) refl; place = tt },
    )
