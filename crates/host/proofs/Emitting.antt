-- What goes out for the first entry for which a frame can.
use Rattle.std.proofs.Common.{◌≡◌, ℕ, zero, suc, ◌+◌, ◌-◌, ◌*◌, ◌≤◌, min, Bool, true, false, cond, List, [], ◌∷◌, ◌++◌, length, drop, slice_range, slice_get, Option, Some, None, is_some, option_map, refl, sym, ◌∙◌, ap, subst, arith, length-take}
use Rattle.std.specs.List.{find, position}
use Rattle.std.proofs.Math.Seq.{drop-nil}
use Rattle.std.proofs.lemmas.Option.{slice_get_past}
use Rattle.std.proofs.lemmas.List.{length-drop}
use Rattle.ether.specs.declared.mac.Mac.{Mac}
use Rattle.ipv4.specs.declared.addr.Addr.{Addr}
use Rattle.ipv4.specs.declared.addr.Endpoint.{Endpoint}
use Rattle.clock.specs.declared.moment.Moment.{Moment}
use Rattle.tcp_segment.proofs.Checksum.{sent_octets_len}
use Rattle.tcp_state.specs.declared.emission.Due.{Due}
use Rattle.tcp_state.specs.Due.{first_due, emitted_len as segment_len, head_of, octets_of, segment_octets as due_segment}
use Rattle.interface.proofs.Framed.{framed}
use Rattle.interface.proofs.Waits.{asks}
use Rattle.interface.specs.Replies.{goes_out}
use Rattle.interface.specs.Ways.{way}
use Rattle.interface.specs.declared.way.Way.{Way}
use Rattle.interface.specs.declared.way.Way.TheVariants.{To, Ask, Waits}
use Rattle.sockets.specs.declared.entry.Entry.{Entry}
use Rattle.sockets.specs.declared.role.Role.{Role}
use Rattle.sockets.specs.declared.role.Role.TheVariants.{Idle, Listener, Connected, Datagrams}
use Rattle.sockets.specs.declared.emission.Emitted.{Emitted}
use Rattle.sockets.specs.declared.emission.Emitted.TheVariants as emitted
use Rattle.sockets.specs.declared.emission.Outgoing.{Outgoing}
use Rattle.sockets.specs.Entries.{due_to, due_emitted, sends, due_octets, due_front, len_of, source_of, with_first}
use Rattle.sockets.specs.Emission.{Next, IsNextAt, emitted, emitted_octets, emitted_front, in_turn}
use Rattle.sockets.specs.SocketsView.{SocketsView}
use Rattle.sockets.proofs.Emitting.{due_outgoing, due_passes, found_due, next-found, next-none, emitted-found, emitted-none, emitted_front-found, emitted_octets-found}
use Rattle.udp.specs.declared.cutting.Part.{Part}
use Rattle.udp.specs.Datagram.{spelling}
use Rattle.udp.specs.Fragments.{fragment, part_of}
use Rattle.udp.proofs.Answering.{sent_len}
use Rattle.udp.proofs.Covering.{part_is}
use Rattle.udp_socket.specs.Emission.{datagram_of, fragment_of, head_of as datagram_head, octets_of as part_octets, due_octets as socket_octets, due_part}
use Rattle.udp_socket.specs.SocketView.{Outgoing as OutDatagram, SocketView}
use borrow.Rule.Slice.PartMut.{mid_of, put_mid}
use Rattle.host.specs.HostView.{HostView}
use Rattle.host.specs.declared.emission.Plan.{Plan}
use Rattle.host.specs.declared.emission.Plan.TheVariants as plan
use Rattle.host.specs.Plans.{IsFirst, plan_by, plan_to, planned}
use Rattle.host.specs.Emission.{Nothing, emission_by, emission_to, emitted_frame, goes_out_from, table_emission}

-- what goes out for the table, by what the first entry of which something can has due
pub table_from : (h : HostView) (now : Moment) (e : Entry) (due : Endpoint × Outgoing) → find (in_turn h.sockets (sends (goes_out_from h now))) h.sockets.entries ≡ Some e → due_to (goes_out_from h now) e.role ≡ Some due
    → table_emission h now ≡ emission_by due.0.addr (way h.interface now due.0.addr)
table_from h now e due found is = ap (λ (o : Option Next). emission_to h now (option_map (λ next. next.peer) o)) (next-found h.sockets (goes_out_from h now) e due found is)

-- no entry sends
pub none_from : (h : HostView) (now : Moment) → find (in_turn h.sockets (sends (goes_out_from h now))) h.sockets.entries ≡ None → table_emission h now ≡ Nothing
none_from h now none = ap (λ (o : Option Next). emission_to h now (option_map (λ next. next.peer) o)) (next-none h.sockets (goes_out_from h now) none)

-- The octets of what goes out, as many as are said, are at the front.

-- a part has the octets that its fragment tells
part_len : (source : Endpoint) (o : OutDatagram) (number : ℕ) → length (part_octets source o number) ≡ (let f = fragment_of o number in f.len)
part_len source o number =
    let payload : List ℕ = spelling (datagram_of source o) in
    let len : length payload ≡ 8 + length o.octets = sent_len source.addr o.peer.addr (datagram_head source o) o.octets in
    ap (λ n. length (part_of payload (fragment n number))) (sym len)
    ∙ ap length (part_is payload number)
    ∙ length-take 1480 (drop (1480 * number) payload)
    ∙ ap (λ n. min 1480 n) (length-drop (1480 * number) payload ∙ ap (λ n. n - 1480 * number) len)

front_is : (own : Addr) (due : Outgoing) (role : Role) (out : List ℕ) (what : Emitted) → due_emitted due role ≡ Some what → due_front own due role out ≡ due_octets own due role ++ drop (len_of what) out
front_is own due role out what e = rw e refl

-- the first entry's
pub emitted_front_is : (h : SocketsView) (goes : Addr → Bool) (out : List ℕ) (what : Emitted) → Some what ≡ emitted h goes → emitted_front h goes out ≡ emitted_octets h goes ++ drop (len_of what) out
emitted_front_is h goes out what e = by_entry (find (in_turn h (sends goes)) h.entries) refl
  where
    by_entry : (o : Option Entry) → find (in_turn h (sends goes)) h.entries ≡ o → emitted_front h goes out ≡ emitted_octets h goes ++ drop (len_of what) out
    by_entry None found = let no = e ∙ emitted-none h goes found in cc
    by_entry (Some x) found =
        let due = found_due h goes x found in
        emitted_front-found h goes out x due.0 found due.1
        ∙ front_is h.addr due.0.1 x.role out what (sym (emitted-found h goes x due.0 found due.1) ∙ sym e)
        ∙ ap (λ l. l ++ drop (len_of what) out) (sym (emitted_octets-found h goes x due.0 found due.1))

role_octets_len : (own : Addr) (first : Outgoing) (role : Role) (what : Emitted) → due_emitted first role ≡ Some what → length (due_octets own first role) ≡ len_of what
role_octets_len own first (Idle buffers bound) what e = cc
role_octets_len own first (Listener local backlog) what e = cc
role_octets_len own first (Connected c listener) what e = by_due (first_due c) refl e
  where
    by_due : (o : Option Due) → first_due c ≡ o → option_map (λ due. emitted.Segment (segment_len c due)) o ≡ Some what → length (due_octets own first (Connected c listener)) ≡ len_of what
    by_due None is e = cc
    by_due (Some due) is e =
        let same : emitted.Segment (segment_len c due) ≡ what = cc in
        let octets : due_octets own first (Connected c listener) ≡ due_segment c due = rw is in
        ap length octets ∙ sent_octets_len c.local.addr c.peer.addr (head_of c due) (octets_of c due) ∙ ap len_of same
role_octets_len own first (Datagrams bound socket) what e = by_socket (with_first first socket) e
  where
    by_outbox : (s : SocketView) (out : List OutDatagram) → s.outbox ≡ out → option_map (λ (part : Part). emitted.Datagram part) (due_part s) ≡ Some what → length (socket_octets (source_of own bound) s) ≡ len_of what
    by_outbox s [] at e =
        let none : option_map (λ (part : Part). emitted.Datagram part) (due_part s) ≡ None = rw at refl in
        let no = sym none ∙ e in cc
    by_outbox s (o ∷ rest) at e =
        let part : Part = record { identification = o.identification; fragment = fragment_of o s.parts } in
        let told : option_map (λ (part : Part). emitted.Datagram part) (due_part s) ≡ Some (emitted.Datagram part) = rw at refl in
        let same : emitted.Datagram part ≡ what = (let both = sym told ∙ e in cc) in
        let octets : socket_octets (source_of own bound) s ≡ part_octets (source_of own bound) o s.parts = rw at refl in
        ap length octets ∙ part_len (source_of own bound) o s.parts ∙ ap len_of same

    by_socket : (s : SocketView) → option_map (λ (part : Part). emitted.Datagram part) (due_part s) ≡ Some what → length (socket_octets (source_of own bound) s) ≡ len_of what
    by_socket s e = by_outbox s s.outbox refl e

pub emitted_octets_len : (h : SocketsView) (goes : Addr → Bool) (what : Emitted) → Some what ≡ emitted h goes → length (emitted_octets h goes) ≡ len_of what
emitted_octets_len h goes what e = by_entry (find (in_turn h (sends goes)) h.entries) refl
  where
    by_entry : (o : Option Entry) → find (in_turn h (sends goes)) h.entries ≡ o → length (emitted_octets h goes) ≡ len_of what
    by_entry None found = let no = e ∙ emitted-none h goes found in cc
    by_entry (Some x) found =
        let due = found_due h goes x found in
        ap length (emitted_octets-found h goes x due.0 found due.1) ∙ role_octets_len h.addr due.0.1 x.role what (sym (emitted-found h goes x due.0 found due.1) ∙ sym e)

-- they stand in a frame behind its heads
pub framed_out : (h : HostView) (goes : Addr → Bool) (mac : Mac) (to : Addr) (out written after : List ℕ) (what : Emitted) (m : ℕ) → length out ≡ 1514 → Some what ≡ emitted h.sockets goes
    → written ≡ emitted_front h.sockets goes (mid_of 34 1480 out) → len_of what ≤ 1480 → 34 + len_of what ≤ m
    → after ≡ emitted_frame h.interface mac to (Some what) (slice_range (put_mid 34 1480 out written) 34 (34 + len_of what)) ++ drop m (put_mid 34 1480 out written)
    → after ≡ emitted_frame h.interface mac to (emitted h.sockets goes) (emitted_octets h.sockets goes) ++ drop m out
framed_out h goes mac to out written after what m len told front fits past is =
    framed (emitted_frame h.interface mac to (Some what)) out written (emitted_octets h.sockets goes) after (len_of what) m len
    (front ∙ emitted_front_is h.sockets goes (mid_of 34 1480 out) what told) (emitted_octets_len h.sockets goes what told) fits past is
    ∙ ap (λ (o : Option Emitted). emitted_frame h.interface mac to o (emitted_octets h.sockets goes) ++ drop m out) told

-- What is planned for an entry.

-- the first of what it has due is that for which something is, ..
passed-by : (h : HostView) (now : Moment) (place : ℕ) (due : Endpoint × Outgoing) → goes_out_from h now due.0.addr ≡ is_some (plan_by place due.1 due.0.addr (way h.interface now due.0.addr))
passed-by h now place due = by_way (way h.interface now due.0.addr)
  where
    by_way : (w : Way) → goes_out w ≡ is_some (plan_by place due.1 due.0.addr w)
    by_way (To mac) = refl
    by_way (Ask hop) = refl
    by_way Waits = refl

-- .. of those from one on
abbrev pub first_from : HostView → Moment → List (Endpoint × Outgoing) → Option (Endpoint × Outgoing)
first_from h now dues = find (λ (due : Endpoint × Outgoing). goes_out_from h now due.0.addr) dues

pub plan_here : (h : HostView) (now : Moment) (place : ℕ) (due : Endpoint × Outgoing) (rest : List (Endpoint × Outgoing)) (p : Option Plan) → p ≡ plan_by place due.1 due.0.addr (way h.interface now due.0.addr) → is_some p ≡ true
    → plan_to h now place (first_from h now (due ∷ rest)) ≡ p
plan_here h now place due rest p is some =
    let passes : goes_out_from h now due.0.addr ≡ true = passed-by h now place due ∙ ap (λ (o : Option Plan). is_some o) (sym is) ∙ some in
    ap (λ (b : Bool). plan_to h now place (cond b (Some due) (first_from h now rest))) passes ∙ sym is

pub plan_further : (h : HostView) (now : Moment) (place : ℕ) (due : Endpoint × Outgoing) (rest : List (Endpoint × Outgoing)) (p : Option Plan) → p ≡ plan_by place due.1 due.0.addr (way h.interface now due.0.addr) → is_some p ≡ false
    → first_from h now (due ∷ rest) ≡ first_from h now rest
plan_further h now place due rest p is none =
    let fails : goes_out_from h now due.0.addr ≡ false = passed-by h now place due ∙ ap (λ (o : Option Plan). is_some o) (sym is) ∙ none in
    ap (λ (b : Bool). cond b (Some due) (first_from h now rest)) fails

-- what is behind a place begins with what is in it
pub from-place : {X : Type 0} (xs : List X) (n : ℕ) (x : X) → slice_get xs n ≡ Some x → drop n xs ≡ x ∷ drop (n + 1) xs
from-place [] n x at = cc
from-place (y ∷ ys) zero x at = let same : y ≡ x = cc in ap (λ z. z ∷ ys) same
from-place (y ∷ ys) (suc n) x at = let next : suc (n + 1) ≡ suc n + 1 = omega arith in from-place ys n x at ∙ ap (λ k. x ∷ drop k (y ∷ ys)) next

pub past-place : {X : Type 0} (xs : List X) (n : ℕ) → slice_get xs n ≡ None → drop n xs ≡ []
past-place [] n at = drop-nil n
past-place (y ∷ ys) zero at = cc
past-place (y ∷ ys) (suc n) at = past-place ys n at

-- the first of all it has due: one for which something is planned, or one that is passed

pub first_found : (h : HostView) (now : Moment) (place : ℕ) (dues : List (Endpoint × Outgoing)) (due : Endpoint × Outgoing) (p : Option Plan) → slice_get dues 0 ≡ Some due → p ≡ plan_by place due.1 due.0.addr (way h.interface now due.0.addr)
    → is_some p ≡ true → p ≡ plan_to h now place (first_from h now dues)
first_found h now place [] due p at is some = cc
first_found h now place (d ∷ rest) due p at is some =
    let same : d ≡ due = cc in sym (ap (λ (x : Endpoint × Outgoing). plan_to h now place (first_from h now (x ∷ rest))) same ∙ plan_here h now place due rest p is some)

pub first_passed : (h : HostView) (now : Moment) (place : ℕ) (dues : List (Endpoint × Outgoing)) (due : Endpoint × Outgoing) (p behind : Option Plan) → slice_get dues 0 ≡ Some due → p ≡ plan_by place due.1 due.0.addr (way h.interface now due.0.addr)
    → is_some p ≡ false → behind ≡ plan_to h now place (first_from h now (drop 1 dues)) → behind ≡ plan_to h now place (first_from h now dues)
first_passed h now place [] due p behind at is none told = cc
first_passed h now place (d ∷ rest) due p behind at is none told =
    let same : d ≡ due = cc in
    told ∙ sym (ap (plan_to h now place) (ap (λ (x : Endpoint × Outgoing). first_from h now (x ∷ rest)) same ∙ plan_further h now place due rest p is none))

-- what the loop over them finds: something in a place, nothing there, nothing more, or the end

pub plan_found : (h : HostView) (now : Moment) (place : ℕ) (dues : List (Endpoint × Outgoing)) (o : Option (Endpoint × Outgoing)) (n : ℕ) (due : Endpoint × Outgoing) (p : Option Plan) → o ≡ first_from h now (drop n dues) → slice_get dues n ≡ Some due
    → p ≡ plan_by place due.1 due.0.addr (way h.interface now due.0.addr) → is_some p ≡ true → p ≡ plan_to h now place o
plan_found h now place dues o n due p so_far at is some =
    sym (ap (plan_to h now place) (so_far ∙ ap (first_from h now) (from-place dues n due at)) ∙ plan_here h now place due (drop (n + 1) dues) p is some)

pub plan_passed : (h : HostView) (now : Moment) (place : ℕ) (dues : List (Endpoint × Outgoing)) (o : Option (Endpoint × Outgoing)) (n : ℕ) (due : Endpoint × Outgoing) (p : Option Plan) → o ≡ first_from h now (drop n dues) → slice_get dues n ≡ Some due
    → p ≡ plan_by place due.1 due.0.addr (way h.interface now due.0.addr) → is_some p ≡ false → o ≡ first_from h now (drop (n + 1) dues)
plan_passed h now place dues o n due p so_far at is none =
    so_far ∙ ap (first_from h now) (from-place dues n due at) ∙ plan_further h now place due (drop (n + 1) dues) p is none

pub plan_nothing : (h : HostView) (now : Moment) (place : ℕ) (dues : List (Endpoint × Outgoing)) (o : Option (Endpoint × Outgoing)) (n : ℕ) → o ≡ first_from h now (drop n dues) → slice_get dues n ≡ None → None ≡ plan_to h now place o
plan_nothing h now place dues o n so_far none = sym (ap (plan_to h now place) (so_far ∙ ap (first_from h now) (past-place dues n none)))

pub plan_ended : (h : HostView) (now : Moment) (place : ℕ) (dues : List (Endpoint × Outgoing)) (o : Option (Endpoint × Outgoing)) (n : ℕ) → o ≡ first_from h now (drop n dues) → length dues ≤ n → None ≡ plan_to h now place o
plan_ended h now place dues o n so_far past = plan_nothing h now place dues o n so_far (slice_get_past dues n past)

-- it sends where something is planned
pub plan_sends : (h : HostView) (now : Moment) (place : ℕ) (e : Entry) → sends (goes_out_from h now) e ≡ is_some (plan_to h now place (due_to (goes_out_from h now) e.role))
plan_sends h now place e = by_due (due_to (goes_out_from h now) e.role) refl
  where
    by_due : (o : Option (Endpoint × Outgoing)) → due_to (goes_out_from h now) e.role ≡ o → is_some o ≡ is_some (plan_to h now place o)
    by_due None is = refl
    by_due (Some due) is = sym (due_passes (goes_out_from h now) e.role due is) ∙ passed-by h now place due

-- what goes out then is what is planned, of the entry whose turn it is
pub planned_to : (h : HostView) (now : Moment) (place : ℕ) (x : Entry) (due : Option (Endpoint × Outgoing)) (p : Plan) → plan_to h now place due ≡ Some p → position (in_turn h.sockets (sends (goes_out_from h now))) h.sockets.entries ≡ Some place
    → find (in_turn h.sockets (sends (goes_out_from h now))) h.sockets.entries ≡ Some x → slice_get h.sockets.entries place ≡ Some x → due_to (goes_out_from h now) x.role ≡ due → (table_emission h now ≡ planned p) × IsFirst h now p
planned_to h now place x None p some first found there is = cc
planned_to h now place x (Some due) p some first found there is = by_way (way h.interface now due.0.addr) refl some
  where
    goes : Addr → Bool
    goes = goes_out_from h now

    next : IsNextAt h.sockets goes place due.1
    next = (first, ap (λ (o : Option Next). option_map (λ (n : Next). n.what) o) (next-found h.sockets goes x due found is))

    out : (w : Way) → way h.interface now due.0.addr ≡ w → table_emission h now ≡ emission_by due.0.addr w
    out w leads = table_from h now x due found is ∙ ap (emission_by due.0.addr) leads

    by_way : (w : Way) → way h.interface now due.0.addr ≡ w → plan_by place due.1 due.0.addr w ≡ Some p → (table_emission h now ≡ planned p) × IsFirst h now p
    by_way (To mac) leads told =
        let same : plan.Send place due.1 mac due.0.addr ≡ p = cc in
        (out (To mac) leads ∙ ap planned same, subst (IsFirst h now) same (next, (x, there, due_outgoing goes x.role due is)))
    by_way (Ask hop) leads told =
        let same : plan.Ask hop ≡ p = cc in
        (out (Ask hop) leads ∙ ap planned same, subst (IsFirst h now) same (asks h.interface now due.0.addr hop leads))
    by_way Waits leads told = cc

-- the entry in this place doesn't send
pub plan_missed : (h : HostView) (now : Moment) (place : ℕ) (x : Entry) (o : Option Plan) → o ≡ plan_to h now place (due_to (goes_out_from h now) x.role) → is_some o ≡ false → sends (goes_out_from h now) x ≡ false
plan_missed h now place x o is missed = plan_sends h now place x ∙ ap (λ (p : Option Plan). is_some p) (sym is) ∙ missed
