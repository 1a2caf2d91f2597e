-- What a segment that comes makes of the two windows of a connection.
use Rattle.std.proofs.Common.{◌≡◌, ℕ, ◌-◌, ◌*◌, ◌==◌, ◌&&◌, ◌||◌, ◌⊎◌, inl, inr, not, max, true, false, if◌then◌else◌, length, refl, sym, ◌∙◌, ap, subst}
use Rattle.tcp_segment.specs.Segment.{Segment}
use Rattle.tcp_segment.specs.Wire.{past}
use Rattle.tcp_halves.specs.Numbers.{is_before}
use Rattle.tcp_halves.specs.Halves.{Sending, Receiving}
use Rattle.tcp_halves.specs.Stream.{is_new_ack}
use Rattle.tcp_halves.specs.Windows.{window_in, updates_window}
use Rattle.tcp_halves.proofs.Choices.{either, clash, and_left, and_right, not_true}
use Rattle.tcp_state.specs.declared.state.State.{State}
use Rattle.tcp_state.specs.declared.state.State.TheVariants.{SynReceived}
use Rattle.tcp_state.specs.View.{View, IsSound, is_opening, is_syn_sent, is_syn_received, is_closed, after_reset}
use Rattle.tcp_state.specs.Arrival.{owing_ack, is_receiving, after_new_ack, is_of_fin, fin_acknowledged, is_off, after_establishment, after_ack, is_acceptable_to, reset_error, after_rst_in_syn_sent, after_rst, is_right_syn_ack, after_syn_ack, is_simultaneous_syn, after_simultaneous_syn, is_read, after_window, after_text, after_segment}
use Rattle.tcp_state.proofs.Losses.{past_opening}
use Rattle.tcp_state.proofs.Onward.{Advances, waits, advanced_text, advanced_fin}
use Rattle.tcp_state.proofs.Recovering.{beyond_opened, ended_opened}
use Rattle.tcp_state.proofs.Segments.{by_fin, by_ack, by_segment, opened_by_syn_ack, after_reading, ack_receives, reading_sends, read_tells}
use Rattle.tcp_state.proofs.Sound.{sound_keeping}

-- SND.UNA stays, or the segment acknowledges more: then that comes off the window, and nothing is a probe's alone
abbrev pub Acknowledges : Sending → ℕ → Sending → Type 0
Acknowledges s ack t =
    ((is_new_ack s ack ≡ false) × (t.una ≡ s.una) × (t.window ≡ s.window) × (t.probed ≡ s.probed))
    ⊎ ((is_new_ack s ack ≡ true) × (t.una ≡ ack) × (t.window ≡ s.window - past ack s.una) × (t.probed ≡ false))

-- what became of the sending half: it acknowledged, and either that is all, or its window was believed, too
pub record Tells (s : Sending) (g : Segment) (t : Sending) : Type 0 where
  pub acks : g.flags.ack ≡ true
  pub acknowledged : Sending
  pub acknowledges : Acknowledges s g.acknowledgement acknowledged
  pub nxt : t.nxt ≡ s.nxt
  pub unit : t.unit ≡ s.unit
  pub una : t.una ≡ acknowledged.una
  pub probed : t.probed ≡ acknowledged.probed
  pub window : (t.window ≡ acknowledged.window) ⊎ ((t.window ≡ window_in s g.window) × (is_before g.acknowledgement t.una ≡ false) × (g.flags.syn ≡ false))

pub record Hears (v : View) (g : Segment) (w : View) : Type 0 where
  pub opened : is_opening w.state ≡ false
  pub receiving : Advances v.receiving w.receiving
  pub unit : w.receiving.unit ≡ v.receiving.unit
  pub scales : w.scales ≡ v.scales
  pub sending : (Tells v.sending g w.sending) ⊎ (w.sending ≡ v.sending)

ack_opened : (v : View) (ack : ℕ) → is_opening v.state ≡ false → is_opening (after_ack v ack).state ≡ false
ack_opened v ack opened = by_ack (λ w. is_opening w.state ≡ false) v ack (record {
  old = opened;
  beyond = opened;
  opens = λ received new. clash (is_syn_received v.state) received (past_opening v.state opened).1;
  octets = λ new. opened;
  fin = λ new fin. beyond_opened v.state opened;
})

ack_scales : (v : View) (ack : ℕ) → (after_ack v ack).scales ≡ v.scales
ack_scales v ack = by_ack (λ w. w.scales ≡ v.scales) v ack (record { old = refl; beyond = refl; opens = λ received new. refl; octets = λ new. refl; fin = λ new fin. refl })

-- the acknowledgement
acked : (v : View) (ack : ℕ) → is_opening v.state ≡ false → Acknowledges v.sending ack (after_ack v ack).sending × ((after_ack v ack).sending.nxt ≡ v.sending.nxt) × ((after_ack v ack).sending.unit ≡ v.sending.unit)
acked v ack opened =
    let P : View → Type 0 = λ w. Acknowledges v.sending ack w.sending × (w.sending.nxt ≡ v.sending.nxt) × (w.sending.unit ≡ v.sending.unit) in
    let past_syn = (past_opening v.state opened).1 in
    let new_one = after_new_ack v ack in
    let rest : View = if is_off v ack then owing_ack v else v in
    either View P (is_syn_received v.state) _ _ (λ received. clash (is_syn_received v.state) received past_syn)
    (λ past_it. either View P (is_new_ack v.sending ack) (if is_of_fin v ack then fin_acknowledged new_one else new_one) rest
    (λ new. either View P (is_of_fin v ack) (fin_acknowledged new_one) new_one (λ fin. (inr (new, refl, refl, refl), refl, refl)) (λ octets. (inr (new, refl, refl, refl), refl, refl)))
    (λ old. either View P (is_off v ack) (owing_ack v) v (λ off. (inl (old, refl, refl, refl), refl, refl)) (λ on. (inl (old, refl, refl, refl), refl, refl))))

-- .. and the window
pub told : (v : View) (g : Segment) → is_opening v.state ≡ false → is_read v g ≡ true → Tells v.sending g (after_window (after_ack v g.acknowledgement) g).sending
told v g opened read =
    let a = (after_ack v g.acknowledgement).sending in
    let k = acked v g.acknowledgement opened in
    let r = read_tells v g read in
    let newer : Sending = record a { window = window_in a g.window; max_window = max a.max_window (window_in a g.window); wl1 = g.number; wl2 = g.acknowledgement } in
    either Sending (λ t. Tells v.sending g t) (updates_window a g.number g.acknowledgement) newer a
    (λ believed. record {
      acks = r.ack;
      acknowledged = a;
      acknowledges = k.0;
      nxt = k.1;
      unit = k.2;
      una = refl;
      probed = refl;
      window = inr (ap (λ n. g.window * n) k.2, not_true (is_before g.acknowledgement a.una) (and_left (not (is_before g.acknowledgement a.una)) _ believed), r.no_syn);
    })
    (λ older. record { acks = r.ack; acknowledged = a; acknowledges = k.0; nxt = k.1; unit = k.2; una = refl; probed = refl; window = inl refl })

-- a segment that is read
reads : (v : View) (g : Segment) → IsSound v → is_opening v.state ≡ false → is_read v g ≡ true → Hears v g (after_reading v g)
reads v g sound opened read =
    let a = after_ack v g.acknowledgement in
    let w = after_window a g in
    let x = after_text w g in
    let same : w.receiving ≡ v.receiving = ack_receives v g.acknowledgement in
    let here : Advances v.receiving w.receiving = subst (λ r. Advances v.receiving r) (sym same) (waits v.receiving sound.rnext) in
    let open_text : is_opening x.state ≡ false = either View (λ y. is_opening y.state ≡ false) ((length g.octets == 0) || not (is_receiving w.state)) w _ (λ none. ack_opened v g.acknowledgement opened) (λ some. ack_opened v g.acknowledgement opened) in
    let unit_text : x.receiving.unit ≡ v.receiving.unit = either View (λ y. y.receiving.unit ≡ v.receiving.unit) ((length g.octets == 0) || not (is_receiving w.state)) w _ (λ none. ap (λ (r : Receiving). r.unit) same) (λ some. ap (λ (r : Receiving). r.unit) same) in
    let scales_text : x.scales ≡ v.scales = either View (λ y. y.scales ≡ v.scales) ((length g.octets == 0) || not (is_receiving w.state)) w _ (λ none. ack_scales v g.acknowledgement) (λ some. ack_scales v g.acknowledgement) in
    record {
      opened = by_fin (λ y. is_opening y.state ≡ false) x g (λ counts. ended_opened x.state open_text) open_text open_text;
      receiving = advanced_fin v.receiving x g sound.rnext (advanced_text v.receiving w g (sound_keeping v sound) here same);
      scales = by_fin (λ y. y.scales ≡ v.scales) x g (λ counts. scales_text) scales_text scales_text;
      unit = by_fin (λ y. y.receiving.unit ≡ v.receiving.unit) x g (λ counts. unit_text) unit_text unit_text;
      sending = inl (subst (λ t. Tells v.sending g t) (sym (reading_sends v g)) (told v g opened read));
    }

-- any segment, past the opening, that leaves the connection open
pub heard : (v : View) (g : Segment) → IsSound v → is_opening v.state ≡ false → is_closed (after_segment v g).state ≡ false → Hears v g (after_segment v g)
heard v g sound opened =
    let waits_not = past_opening v.state opened in
    let here = waits v.receiving sound.rnext in
    by_segment (λ w. is_closed w.state ≡ false → Hears v g w) v g (record {
      dropped = λ lives. record { opened = opened; receiving = here; unit = refl; scales = refl; sending = inr refl };
      drawn = λ lives. record { opened = opened; receiving = here; unit = refl; scales = refl; sending = inr refl };
      reset = λ acts lives. cc;
      crossed = λ waits lives. clash (is_syn_sent v.state) waits waits_not.0;
      opened = λ waits right lives. clash (is_syn_sent v.state) waits waits_not.0;
      acknowledged = λ taken lives.
          let a = (after_ack v g.acknowledgement).sending in
          let k = acked v g.acknowledgement opened in
          let same = ack_receives v g.acknowledgement in
          record {
            opened = ack_opened v g.acknowledgement opened;
            receiving = subst (λ r. Advances v.receiving r) (sym same) here;
            unit = ap (λ (r : Receiving). r.unit) same;
            scales = ack_scales v g.acknowledgement;
            sending = inl (record { acks = and_right (not g.flags.rst && is_acceptable_to v g && not g.flags.syn) g.flags.ack taken; acknowledged = a; acknowledges = k.0; nxt = k.1; unit = k.2; una = refl; probed = refl; window = inl refl });
          };
      read = λ read lives. reads v g sound opened read;
    })

-- Our SYN-ACK is acknowledged, and the window that comes with that is believed, or not.
pub record Establishes (v : View) (g : Segment) (w : View) : Type 0 where
  pub opened : is_opening w.state ≡ false
  pub acks : g.flags.ack ≡ true
  pub new : is_new_ack v.sending g.acknowledgement ≡ true
  pub una : w.sending.una ≡ v.sending.nxt
  pub nxt : w.sending.nxt ≡ v.sending.nxt
  pub unit : w.sending.unit ≡ v.sending.unit
  pub probed : w.sending.probed ≡ false
  pub window : (w.sending.window ≡ v.sending.window) ⊎ ((w.sending.window ≡ window_in v.sending g.window) × (g.flags.syn ≡ false))

-- what a segment makes of a connection in SYN-RECEIVED
pub record Confirms (v : View) (g : Segment) (w : View) : Type 0 where
  pub receiving : Advances v.receiving w.receiving
  pub unit : w.receiving.unit ≡ v.receiving.unit
  pub scales : w.scales ≡ v.scales
  pub synchronised : is_syn_sent w.state ≡ false
  pub how : ((w.sending ≡ v.sending) × (is_opening w.state ≡ true) × (w.receiving ≡ v.receiving)) ⊎ Establishes v g w

received_not_sent : (t : State) → is_syn_received t ≡ true → is_syn_sent t ≡ false
received_not_sent SynReceived e = refl
received_not_sent _ e = cc

received_opens : (t : State) → is_syn_received t ≡ true → is_opening t ≡ true
received_opens SynReceived e = refl
received_opens _ e = cc

opened_not_sent : (t : State) → is_opening t ≡ false → is_syn_sent t ≡ false
opened_not_sent t e = (past_opening t e).0

confirmed : (v : View) (g : Segment) → IsSound v → is_syn_received v.state ≡ true → is_read v g ≡ true → Confirms v g (after_reading v g)
confirmed v g sound received read =
    let r = read_tells v g read in
    let new : is_new_ack v.sending g.acknowledgement ≡ true = sym (ap (λ b. if b then is_new_ack v.sending g.acknowledgement else is_new_ack v.sending g.acknowledgement || not (is_off v g.acknowledgement)) received) ∙ r.on in
    let a = after_establishment v in
    let at : after_ack v g.acknowledgement ≡ a =
    ap (λ b. if b then (if is_new_ack v.sending g.acknowledgement then a else v) else if is_new_ack v.sending g.acknowledgement then (if is_of_fin v g.acknowledgement then fin_acknowledged (after_new_ack v g.acknowledgement) else after_new_ack v g.acknowledgement) else if is_off v g.acknowledgement then owing_ack v else v) received
    ∙ ap (λ b. if b then a else v) new in
    let w = after_window (after_ack v g.acknowledgement) g in
    let x = after_text w g in
    let same : w.receiving ≡ v.receiving = ack_receives v g.acknowledgement in
    let here : Advances v.receiving w.receiving = subst (λ r. Advances v.receiving r) (sym same) (waits v.receiving sound.rnext) in
    let opened : is_opening (after_ack v g.acknowledgement).state ≡ false = ap (λ (y : View). is_opening y.state) at in
    let open_text : is_opening x.state ≡ false = either View (λ y. is_opening y.state ≡ false) ((length g.octets == 0) || not (is_receiving w.state)) w _ (λ none. opened) (λ some. opened) in
    let unit_text : x.receiving.unit ≡ v.receiving.unit = either View (λ y. y.receiving.unit ≡ v.receiving.unit) ((length g.octets == 0) || not (is_receiving w.state)) w _ (λ none. ap (λ (r : Receiving). r.unit) same) (λ some. ap (λ (r : Receiving). r.unit) same) in
    let scales_text : x.scales ≡ v.scales = either View (λ y. y.scales ≡ v.scales) ((length g.octets == 0) || not (is_receiving w.state)) w _ (λ none. ack_scales v g.acknowledgement) (λ some. ack_scales v g.acknowledgement) in
    let P : Sending → Type 0 = λ t. (t.una ≡ v.sending.nxt) × (t.nxt ≡ v.sending.nxt) × (t.unit ≡ v.sending.unit) × (t.probed ≡ false) × ((t.window ≡ v.sending.window) ⊎ ((t.window ≡ window_in v.sending g.window) × (g.flags.syn ≡ false))) in
    let b = a.sending in
    let newer : Sending = record b { window = window_in b g.window; max_window = max b.max_window (window_in b g.window); wl1 = g.number; wl2 = g.acknowledgement } in
    let told_so : P (after_window a g).sending = either Sending P (updates_window b g.number g.acknowledgement) newer b (λ believed. (refl, refl, refl, refl, inr (refl, r.no_syn))) (λ older. (refl, refl, refl, refl, inl refl)) in
    let sending : P (after_reading v g).sending = subst P (sym (reading_sends v g)) (subst (λ (y : View). P (after_window y g).sending) (sym at) told_so) in
    let open_all : is_opening (after_reading v g).state ≡ false = by_fin (λ y. is_opening y.state ≡ false) x g (λ counts. ended_opened x.state open_text) open_text open_text in
    record {
      receiving = advanced_fin v.receiving x g sound.rnext (advanced_text v.receiving w g (sound_keeping v sound) here same);
      unit = by_fin (λ y. y.receiving.unit ≡ v.receiving.unit) x g (λ counts. unit_text) unit_text unit_text;
      scales = by_fin (λ y. y.scales ≡ v.scales) x g (λ counts. scales_text) scales_text scales_text;
      synchronised = opened_not_sent (after_reading v g).state open_all;
      how = inr (record { opened = open_all; acks = r.ack; new = new; una = sending.0; nxt = sending.1; unit = sending.2; probed = sending.3; window = sending.4 });
    }

pub heard_received : (v : View) (g : Segment) → IsSound v → is_syn_received v.state ≡ true → is_closed (after_segment v g).state ≡ false → Confirms v g (after_segment v g)
heard_received v g sound received =
    let here = waits v.receiving sound.rnext in
    let not_sent = received_not_sent v.state received in
    let opening = received_opens v.state received in
    by_segment (λ w. is_closed w.state ≡ false → Confirms v g w) v g (record {
      dropped = λ lives. record { receiving = here; unit = refl; scales = refl; synchronised = not_sent; how = inl (refl, opening, refl) };
      drawn = λ lives. record { receiving = here; unit = refl; scales = refl; synchronised = not_sent; how = inl (refl, opening, refl) };
      reset = λ acts lives. cc;
      crossed = λ waits lives. clash (is_syn_sent v.state) waits not_sent;
      opened = λ waits right lives. clash (is_syn_sent v.state) waits not_sent;
      acknowledged = λ taken lives.
          let acks = and_right (not g.flags.rst && is_acceptable_to v g && not g.flags.syn) g.flags.ack taken in
          either View (λ w. Confirms v g w) (is_syn_received v.state) (if is_new_ack v.sending g.acknowledgement then after_establishment v else v) _
          (λ so. either View (λ w. Confirms v g w) (is_new_ack v.sending g.acknowledgement) (after_establishment v) v
          (λ new. record {
            receiving = here;
            unit = refl;
            scales = refl;
            synchronised = refl;
            how = inr (record { opened = refl; acks = acks; new = new; una = refl; nxt = refl; unit = refl; probed = refl; window = inl refl });
          })
          (λ old. record { receiving = here; unit = refl; scales = refl; synchronised = not_sent; how = inl (refl, opening, refl) }))
          (λ other. clash (is_syn_received v.state) received other);
      read = λ read lives. confirmed v g sound received read;
    })

-- what a segment makes of a connection in SYN-SENT: nothing, or the SYN is taken, with an acknowledgement of ours or without
abbrev pub TakesSyn : View → Segment → View → Type 0
TakesSyn v g w = (w ≡ v) ⊎ (((w ≡ after_simultaneous_syn v g) × (g.flags.syn ≡ true)) ⊎ ((w ≡ opened_by_syn_ack v g) × (is_right_syn_ack v g ≡ true)))

pub heard_sent : (v : View) (g : Segment) → is_syn_sent v.state ≡ true → is_closed (after_segment v g).state ≡ false → TakesSyn v g (after_segment v g)
heard_sent v g sent =
    let P : View → Type 0 = λ w. is_closed w.state ≡ false → TakesSyn v g w in
    let confirms = g.flags.ack && is_new_ack v.sending g.acknowledgement in
    either View P (is_closed v.state) v _ (λ closed lives. inl refl)
    (λ alive. either View P g.flags.rst (if is_syn_sent v.state then after_rst_in_syn_sent v g else after_rst v g) _
    (λ rst. either View P (is_syn_sent v.state) (after_rst_in_syn_sent v g) (after_rst v g)
    (λ waits. either View P confirms (after_reset v (reset_error v.state)) v (λ acts lives. cc) (λ other lives. inl refl))
    (λ past_it. clash (is_syn_sent v.state) sent past_it))
    (λ no_rst. either View P (is_syn_sent v.state) (if is_simultaneous_syn v g then after_simultaneous_syn v g else after_syn_ack v g) _
    (λ waits. either View P (is_simultaneous_syn v g) (after_simultaneous_syn v g) (after_syn_ack v g)
    (λ crosses lives. inr (inl (refl, and_left g.flags.syn (not g.flags.ack) crosses)))
    (λ answers. either View P (is_right_syn_ack v g) (opened_by_syn_ack v g) v (λ right lives. inr (inr (refl, right))) (λ wrong lives. inl refl)))
    (λ past_it. clash (is_syn_sent v.state) sent past_it)))
