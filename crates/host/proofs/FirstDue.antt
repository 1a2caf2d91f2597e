-- The first of all that the entries have due goes out, where the MAC of its hop is known.
use Rattle.std.proofs.Common.{◌≡◌, inl, inr, ℕ, true, false, get_or, Option, Some, None, is_some, option_map, IfSome, refl, sym, ◌∙◌, ap, subst, arith}
use Rattle.std.specs.Prelude.{slice_get}
use Rattle.std.specs.List.{position}
use Rattle.std.proofs.lemmas.Option.{slice_get_cases}
use Rattle.ether.specs.declared.mac.Mac.{Mac}
use Rattle.clock.specs.declared.moment.Moment.{Moment}
use Rattle.interface.specs.Ways.{way}
use Rattle.interface.specs.declared.way.Way.{Way}
use Rattle.interface.specs.declared.way.Way.TheVariants.{To}
use Rattle.sockets.specs.declared.emission.NextDue.{NextDue}
use Rattle.sockets.specs.declared.entry.Entry.{Entry}
use Rattle.sockets.specs.Emission.{IsNextAt, in_turn}
use Rattle.sockets.specs.Entries.{IsDueAt, due_to, dues_of, sends}
use Rattle.sockets.specs.Outlook.{has_due}
use Rattle.sockets.proofs.Firsts.{find-position, position-lt-length, position-none_passes}
use Rattle.sockets.proofs.Followed.{by_test}
use Rattle.sockets.proofs.InTurn.{turn_fails, turn_narrows, turn_nobody}
use Rattle.sockets.proofs.NextDues.{nothing_sends}
use Rattle.host.specs.HostView.{HostView}
use Rattle.host.specs.declared.emission.Plan.{Plan}
use Rattle.host.specs.declared.emission.Plan.TheVariants as plan
use Rattle.host.specs.Plans.{plan_by, plan_to}
use Rattle.host.specs.Emission.{Nothing, Sends, goes_out_from, table_emission}
use Rattle.host.proofs.Emitting.{first_found, plan_sends, planned_to}
use Rattle.host.proofs.Planned.{none_planned}

-- what has nothing due sends nothing
sends_has : (h : HostView) (now : Moment) (e : Entry) → sends (goes_out_from h now) e ≡ true → has_due e ≡ true
sends_has h now e goes = by_test (has_due e) (λ has. has) (λ none. let bad : true ≡ false = sym goes ∙ nothing_sends (goes_out_from h now) e none in cc)

-- the place that is told, or none
abbrev pub place_of : Option NextDue → Option ℕ
place_of o = option_map (λ (due : NextDue). due.place) o

-- none has anything due: nothing goes out
pub none_due : (v h : HostView) (now : Moment) (o : Option NextDue) → v ≡ h → place_of o ≡ position (in_turn v.sockets has_due) v.sockets.entries → o ≡ None → table_emission h now ≡ Nothing
none_due v h now o same told none =
    let past : position (in_turn h.sockets has_due) h.sockets.entries ≡ None = ap (λ (g : HostView). position (in_turn g.sockets has_due) g.sockets.entries) (sym same) ∙ sym told ∙ ap place_of none in
    none_planned h now
    (position-none_passes (in_turn h.sockets (sends (goes_out_from h now))) h.sockets.entries
    (λ k d low high. turn_fails h.sockets (sends (goes_out_from h now)) (get_or h.sockets.entries k d) (nothing_sends (goes_out_from h now) (get_or h.sockets.entries k d) (turn_nobody h.sockets has_due past k d high))))

-- what the first has due goes out, to this MAC
pub record IsSent (h : HostView) (now : Moment) (due : NextDue) (mac : Mac) : Type 0 where
  pub what : table_emission h now ≡ Sends mac due.peer.addr
  pub first : IsNextAt h.sockets (goes_out_from h now) due.place due.outgoing
  pub there : IsDueAt h.sockets.entries due.place due.outgoing

sent_at : (h : HostView) (now : Moment) (due : NextDue) (mac : Mac) → position (in_turn h.sockets has_due) h.sockets.entries ≡ Some due.place
    → ((e : Entry) → slice_get h.sockets.entries due.place ≡ Some e → slice_get (dues_of e.role) 0 ≡ Some (due.peer, due.outgoing)) → way h.interface now due.peer.addr ≡ To mac → IsSent h now due mac
sent_at h now due mac found told leads =
    elim (slice_get_cases h.sockets.entries due.place).1 [
      | inl here ↦
          let x : Entry = here.0 in
          let p : Plan = plan.Send due.place due.outgoing mac due.peer.addr in
          let by_peer : Some p ≡ plan_by due.place due.outgoing due.peer.addr (way h.interface now due.peer.addr) = ap (plan_by due.place due.outgoing due.peer.addr) (sym leads) in
          let is : plan_to h now due.place (due_to (goes_out_from h now) x.role) ≡ Some p = sym (first_found h now due.place (dues_of x.role) (due.peer, due.outgoing) (Some p) (told x here.2) by_peer refl) in
          let goes : sends (goes_out_from h now) x ≡ true = plan_sends h now due.place x ∙ ap is_some is in
          let turn = turn_narrows h.sockets (sends (goes_out_from h now)) has_due (λ e passes. sends_has h now e passes) due.place x found (sym here.3) goes in
          let planned_so = planned_to h now due.place x (due_to (goes_out_from h now) x.role) p is turn (find-position (in_turn h.sockets (sends (goes_out_from h now))) h.sockets.entries due.place x turn (sym here.3)) here.2 refl in
          record { what = planned_so.0; first = planned_so.1.0; there = planned_so.1.1 }
      | inr past ↦ absurd (omega (arith, past.0, position-lt-length (in_turn h.sockets has_due) h.sockets.entries due.place found))
    ]

pub first_due_sent : (v h : HostView) (now : Moment) (due : NextDue) (o : Option NextDue) (w : Way) (mac : Mac) → v ≡ h → place_of o ≡ position (in_turn v.sockets has_due) v.sockets.entries
    → IfSome o (λ (due : NextDue). (e : Entry) → slice_get v.sockets.entries due.place ≡ Some e → slice_get (dues_of e.role) 0 ≡ Some (due.peer, due.outgoing)) → o ≡ Some due
    → w ≡ way v.interface now due.peer.addr → w ≡ To mac → IsSent h now due mac
first_due_sent v h now due o w mac same placed told is leads to =
    subst (λ (g : HostView). IsSent g now due mac) same
    (sent_at v now due mac (sym placed ∙ ap place_of is)
    (subst (λ (s : Option NextDue). IfSome s (λ (due : NextDue). (e : Entry) → slice_get v.sockets.entries due.place ≡ Some e → slice_get (dues_of e.role) 0 ≡ Some (due.peer, due.outgoing))) is told) (sym leads ∙ to))
