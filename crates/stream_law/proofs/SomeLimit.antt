-- Where a SYN is acknowledged, octets may be written while something is under way: else no acknowledgement is in time.
use Rattle.std.proofs.Common.{◌≡◌, ◌⊎◌, inl, inr, ℕ, zero, suc, ◌+◌, ◌<◌, ◌≤◌, true, false, List, ◌∷◌, ◌++◌, length, length-append, arith, refl, sym, ◌∙◌, ap}
use Rattle.stream_law.specs.Channel.{Ack, Sender, Open, Channel, IsAmong, here, there}
use Rattle.stream_law.specs.ChannelSteps.{Step, opens, writes, closes, emits_syn, emits_text, emits_bare, emits_before, synchronises, delivers, emits_ack, acknowledges, reads, reads_end, sending_stops, receiving_stops, sender_from, Runs, starts, steps}

-- of a channel without a limit: no acknowledgement went out later than all that is written, and no SYN is acknowledged
record Unheard (c : Channel) : Type 0 where
  acks : (a : Ack) → IsAmong a c.acks → a.written_at ≤ length c.written
  unacked : (s : Sender) → c.sending ≡ Open s → s.syn_acked ≡ false

one-of : (a x : Ack) (xs : List Ack) → IsAmong a (x ∷ xs) → (a ≡ x) ⊎ IsAmong a xs
one-of _ x xs (here _ _) = inl refl
one-of a x xs (there _ _ _ among) = inr among

-- the sender that a channel has is this one
still-unacked : (c d : Channel) (s t : Sender) → Unheard c → c.sending ≡ Open s → d.sending ≡ Open t → t.syn_acked ≡ s.syn_acked → (x : Sender) → d.sending ≡ Open x → x.syn_acked ≡ false
still-unacked c d s t h is becomes same x at =
    let open_as : Open t ≡ Open x = sym becomes ∙ at in
    let it : t ≡ x = cc in
    ap (λ (y : Sender). y.syn_acked) (sym it) ∙ (same ∙ h.unacked s is)

unheard-step : (cap : ℕ) (c d : Channel) → Step cap 0 c d → Unheard c → Unheard d
unheard-step cap _ _ (opens c isn is fits) h = record { acks = h.acks; unacked = λ x at. let it : sender_from isn ≡ x = cc in ap (λ (y : Sender). y.syn_acked) (sym it) }
unheard-step cap _ _ (writes c s octets is unclosed room) h = record {
  acks = λ a among. let before = h.acks a among in let more : length (c.written ++ octets) ≡ length c.written + length octets = length-append c.written octets in omega (arith, before, more);
  unacked = still-unacked c (record c { written = c.written ++ octets; sending = Open (record s { held = s.held ++ octets }) }) s _ h is refl refl;
}
unheard-step cap _ _ (closes c) h = record { acks = h.acks; unacked = h.unacked }
unheard-step cap _ d (emits_syn c s is unacked) h = record { acks = h.acks; unacked = still-unacked c d s _ h is refl refl }
unheard-step cap _ d (emits_text c s before octets after fin is acked unfinished held last) h = record { acks = h.acks; unacked = still-unacked c d s _ h is refl refl }
unheard-step cap _ _ (emits_bare c s is) h = record { acks = h.acks; unacked = h.unacked }
unheard-step cap _ _ (emits_before c s is acked) h = record { acks = h.acks; unacked = h.unacked }
unheard-step cap _ _ (synchronises c f is among syn) h = record { acks = h.acks; unacked = h.unacked }
unheard-step cap _ _ (delivers c y f gained kept fin is among recent gains keeps ends) h = record { acks = h.acks; unacked = h.unacked }
unheard-step cap _ _ (emits_ack c y is) h = record {
  acks = λ a among. elim (one-of a _ c.acks among) [
    | inl new ↦ let at : a.written_at ≡ length c.written = ap (λ (x : Ack). x.written_at) new in omega (arith, at)
    | inr old ↦ h.acks a old
  ];
  unacked = h.unacked;
}
unheard-step cap _ _ (acknowledges c s a is among recent some short) h = let before = h.acks a among in absurd (omega (arith, before, recent))
unheard-step cap _ _ (reads c octets rest is) h = record { acks = h.acks; unacked = h.unacked }
unheard-step cap _ _ (reads_end c none seen) h = record { acks = h.acks; unacked = h.unacked }
unheard-step cap _ _ (sending_stops c s is) h = record { acks = h.acks; unacked = λ x at. cc }
unheard-step cap _ _ (receiving_stops c) h = record { acks = h.acks; unacked = h.unacked }

unheard : (cap : ℕ) (c : Channel) → Runs cap 0 c → Unheard c
unheard cap _ starts = record { acks = λ a among. elim among [ ]; unacked = λ x at. cc }
unheard cap _ (steps c d run step) = unheard-step cap c d step (unheard cap c run)

pub some-limit : (cap limit : ℕ) (c : Channel) (s : Sender) → Runs cap limit c → c.sending ≡ Open s → s.syn_acked ≡ true → 0 < limit
some-limit cap zero c s run is acked = let none : s.syn_acked ≡ false = (unheard cap c run).unacked s is in cc
some-limit cap (suc n) c s run is acked = omega arith
