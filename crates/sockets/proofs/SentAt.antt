-- What the emission of the entry in a place tells and makes of the table, where that is the first that sends.
use Rattle.std.proofs.Common.{◌≡◌, ◌∙◌, ℕ, Bool, if◌then◌else◌, List, length, get_or, set, Option, ap, sym}
use Rattle.std.specs.List.{refill, remove}
use Rattle.clock.specs.declared.moment.Moment.{Moment}
use Rattle.ipv4.specs.declared.addr.Addr.{Addr}
use Rattle.tcp_state.specs.declared.connection.Fate.{Fate}
use Rattle.sockets.specs.declared.emission.Emitted.{Emitted}
use Rattle.sockets.specs.declared.emission.Outgoing.{Outgoing}
use Rattle.sockets.specs.declared.entry.Entry.{Entry}
use Rattle.sockets.specs.declared.role.Role.{Role}
use Rattle.sockets.specs.Emission.{in_turn, IsNextAt, emitted, emitted_front, after_segment_sent}
use Rattle.sockets.specs.Entries.{sends, is_kept, due_emitted, due_front, role_after_emission, emission_fate_of, entries_after_step}
use Rattle.sockets.specs.SocketsView.{SocketsView, later_moment}
use Rattle.sockets.proofs.Arrived.{entry_settled}
use Rattle.sockets.proofs.Emitting.{IsNextEntry, next-at, segment_sent-found, emitted-found, emitted_front-found}
use Rattle.sockets.proofs.Written.{role_changed}

-- The table v is h, and its entries zs were lent.
module _ (v h : SocketsView) (goes : Addr → Bool) (place : ℕ) (what : Outgoing) (zs : List Entry) (x : Entry) (same : v ≡ h) (lent : zs ≡ v.entries) (is : x ≡ get_or zs place x) (next : IsNextAt h goes place what) where
  it : IsNextEntry h goes x what
  it = next-at h goes place what x next (is ∙ ap (λ (es : List Entry). get_or es place x) (lent ∙ ap (λ (w : SocketsView). w.entries) same))

  pub told_at : (told : Option Emitted) → told ≡ due_emitted what (get_or zs place x).role → told ≡ emitted h goes
  told_at told sent =
      sent
      ∙ ap (λ (e : Entry). due_emitted what e.role) (sym is)
      ∙ ap (λ (w : Outgoing). due_emitted w x.role) (sym it.same)
      ∙ sym (emitted-found h goes x it.due it.found it.is)

  pub front_at : (out left : List ℕ) → left ≡ due_front v.addr what (get_or zs place x).role out → left ≡ emitted_front h goes out
  front_at out left sent =
      sent
      ∙ ap (λ (e : Entry). due_front v.addr what e.role out) (sym is)
      ∙ ap (λ (w : SocketsView). due_front w.addr what x.role out) same
      ∙ ap (λ (w : Outgoing). due_front h.addr w x.role out) (sym it.same)
      ∙ sym (emitted_front-found h goes out x it.due it.found it.is)

  pub table_at : (given : Moment) (role : Role) (fate : Fate) (ws : List Entry) → role ≡ role_after_emission (later_moment h given) what (get_or zs place x).role → fate ≡ emission_fate_of role
      → ws ≡ (if is_kept fate then refill (length v.entries) v.entries (set zs place (record (get_or zs place x) { role = role })) else remove (refill (length v.entries) v.entries (set zs place (record (get_or zs place x) { role = role }))) place)
      → record v { turn = (get_or zs place x).id; entries = ws } ≡ after_segment_sent h goes given
  table_at given role fate ws sent over settled =
      let now : Moment = later_moment h given in
      let first : Outgoing = it.due.1 in
      let there : Entry = get_or zs place x in
      let emits : role ≡ role_after_emission now first there.role = sent ∙ ap (λ (w : Outgoing). role_after_emission now w there.role) (sym it.same) in
      ap (λ (e : Entry). let u : SocketsView = record v { turn = e.id; entries = ws } in u) (sym is)
      ∙ ap (λ (w : SocketsView). let u : SocketsView = record w { turn = x.id } in u)
      (entry_settled v h (in_turn h (sends goes)) (role_after_emission now first) zs ws place x _ fate same next.0 lent is (role_changed (role_after_emission now first) there role emits) settled)
      ∙ ap (λ (r : Fate). let w : SocketsView = record h { turn = x.id; entries = entries_after_step r (in_turn h (sends goes)) (role_after_emission now first) h.entries } in w)
      (over ∙ ap emission_fate_of emits ∙ ap (λ (e : Entry). emission_fate_of (role_after_emission now first e.role)) (sym is))
      ∙ sym (segment_sent-found h goes given x it.due it.found it.is)
