-- Where nothing can go out, the host stays as it was.
use Rattle.std.proofs.Common.{◌≡◌, ℕ, Bool, Option, Some, None, option_map, refl, sym, ◌∙◌, ap}
use Rattle.std.specs.List.{find}
use Rattle.std.specs.Option.{IfNone}
use Rattle.clock.specs.declared.moment.Moment.{Moment}
use Rattle.tcp_state.specs.declared.emission.Due.{Due}
use Rattle.tcp_state.specs.Due.{emitted_len as segment_len}
use Rattle.ipv4.specs.declared.addr.Addr.{Addr}
use Rattle.ipv4.specs.declared.addr.Endpoint.{Endpoint}
use Rattle.udp.specs.declared.cutting.Part.{Part}
use Rattle.sockets.specs.declared.emission.Emitted.TheVariants.{Segment, Datagram}
use Rattle.sockets.specs.declared.emission.Outgoing.{Outgoing}
use Rattle.sockets.specs.declared.entry.Entry.{Entry}
use Rattle.sockets.specs.declared.role.Role.{Role}
use Rattle.sockets.specs.declared.role.Role.TheVariants.{Idle, Listener, Connected, Datagrams}
use Rattle.sockets.specs.Entries.{sends, due_to, due_emitted}
use Rattle.sockets.specs.Emission.{emitted, after_segment_sent, in_turn}
use Rattle.sockets.specs.SocketsView.{SocketsView, later_moment}
use Rattle.sockets.proofs.Emitting.{found_due, first_segment, emitted-found, segment_sent-none}
use Rattle.host.specs.HostView.{HostView, with_sockets}
use Rattle.host.specs.Emission.{Emission, Replies, Sends, Asks, Nothing, goes_out_from, emission, emitted_len, len_of, left_by, emission_len, after_emission}
use Rattle.wire_sim.specs.declared.world.station.Station.{Station}
use Rattle.wire_sim.proofs.carried.TableSends.{datagram-due}

-- of a role of which something goes out it is told what
due-told : (goes : Addr → Bool) (r : Role) (what : Endpoint × Outgoing) → due_to goes r ≡ Some what → due_emitted what.1 r ≡ None → ⊥
due-told goes (Connected c l) what is none =
    let first = first_segment goes c l what is in
    let some : Some (Segment (segment_len c first.segment)) ≡ None = ap (option_map (λ (due : Due). Segment (segment_len c due))) (sym first.first) ∙ none in cc
due-told goes (Datagrams bound socket) what is none =
    let due = datagram-due goes bound socket what is in
    let some : Some (Datagram due.part) ≡ None = ap (option_map (λ (part : Part). Datagram part)) (sym due.told) ∙ none in cc
due-told goes (Listener local backlog) what is none = cc
due-told goes (Idle buffers bound) what is none = cc

unmapped : {A B : Type 0} (f : A → B) (o : Option A) → option_map f o ≡ None → o ≡ None
unmapped f None none = refl
unmapped f (Some x) none = cc

-- where nothing is told to go out, nothing does
unsent : (own : SocketsView) (goes : Addr → Bool) (moment : Moment) → emitted own goes ≡ None → after_segment_sent own goes moment ≡ own
unsent own goes moment none = by_entry (find (in_turn own (sends goes)) own.entries) refl
  where
    by_entry : (o : Option Entry) → find (in_turn own (sends goes)) own.entries ≡ o → after_segment_sent own goes moment ≡ own
    by_entry None found = segment_sent-none own goes moment found
    by_entry (Some e) found =
        let due = found_due own goes e found in
        absurd (due-told goes e.role due.0 due.1 (sym (emitted-found own goes e due.0 found due.1) ∙ none))

pub nothing-left : (h : HostView) (now : Moment) → emission_len h now ≡ None → after_emission h now ≡ h
nothing-left h now = by_emission (emission h moment)
  where
    moment : Moment
    moment = later_moment h.sockets now

    by_emission : (x : Emission) → len_of h moment x ≡ None → left_by h moment x ≡ h
    by_emission (Replies place) none = cc
    by_emission (Sends mac to) none = ap (with_sockets h) (unsent h.sockets (goes_out_from h moment) moment (unmapped emitted_len (emitted h.sockets (goes_out_from h moment)) none))
    by_emission (Asks hop) none = cc
    by_emission Nothing none = refl

-- nor does its station change
pub station-still : (s : Station) (h : HostView) (answer : Option ℕ) → answer ≡ emission_len s.host s.clock → h ≡ after_emission s.host s.clock → IfNone answer (◌≡◌ {A = Station} (record s { host = h }) s)
station-still s h None told after = ap (λ (w : HostView). let t : Station = record s { host = w } in t) (after ∙ nothing-left s.host s.clock (sym told))
station-still s h (Some len) told after = tt
