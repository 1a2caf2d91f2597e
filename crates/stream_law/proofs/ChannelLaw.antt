-- Every channel that runs is lawful.
use Rattle.std.proofs.Common.{ℕ, ◌+◌, ◌≤◌, ◌^◌, ◌++◌, sym, ◌∙◌, ap, append_assoc, append-nil}
use Rattle.stream_law.specs.Channel.{Channel}
use Rattle.stream_law.specs.ChannelSteps.{Step, opens, writes, closes, emits_syn, emits_text, emits_bare, emits_before, synchronises, delivers, emits_ack, acknowledges, reads, reads_end, sending_stops, receiving_stops, Runs, starts, steps, IsLawful}
use Rattle.stream_law.proofs.Invariant.{Holds}
use Rattle.stream_law.proofs.Keeping.{holds-fresh, keeps-opens, keeps-writes, keeps-closes, keeps-emits_syn, keeps-emits_bare, keeps-emits_before}
use Rattle.stream_law.proofs.KeepingText.{keeps-emits_text}
use Rattle.stream_law.proofs.KeepingArrival.{keeps-synchronises, keeps-emits_ack, keeps-reads, keeps-reads_end, keeps-sending_stops, keeps-receiving_stops}
use Rattle.stream_law.proofs.KeepingOctets.{Near, keeps-delivers, keeps-acknowledges}

keeps-step : (cap limit : ℕ) → Near cap limit → (c d : Channel) → Step cap limit c d → Holds cap c → Holds cap d
keeps-step cap limit small _ _ (opens c isn unopened fits) h = keeps-opens cap c isn unopened fits h
keeps-step cap limit small _ _ (writes c s octets is unclosed room) h = keeps-writes cap c s octets is unclosed room h
keeps-step cap limit small _ _ (closes c) h = keeps-closes cap c h
keeps-step cap limit small _ _ (emits_syn c s is unacked) h = keeps-emits_syn cap c s is unacked h
keeps-step cap limit small _ _ (emits_text c s before octets after fin is acked unfinished held last) h =
    keeps-emits_text cap small.buffer c s before octets after fin is acked unfinished held last h
keeps-step cap limit small _ _ (emits_bare c s is) h = keeps-emits_bare cap c s is h
keeps-step cap limit small _ _ (emits_before c s is acked) h = keeps-emits_before cap c s is acked h
keeps-step cap limit small _ _ (synchronises c f is among syn) h = keeps-synchronises cap c f is among syn h
keeps-step cap limit small _ _ (delivers c y f gained kept fin is among recent gains keeps ends) h =
    keeps-delivers cap limit small c y f gained kept fin is among recent gains keeps ends h
keeps-step cap limit small _ _ (emits_ack c y is) h = keeps-emits_ack cap c y is h
keeps-step cap limit small _ _ (acknowledges c s a is among recent some short) h = keeps-acknowledges cap limit small c s a is among recent some short h
keeps-step cap limit small _ _ (reads c octets rest is) h = keeps-reads cap c octets rest is h
keeps-step cap limit small _ _ (reads_end c none seen) h = keeps-reads_end cap c none seen h
keeps-step cap limit small _ _ (sending_stops c s is) h = keeps-sending_stops cap c h
keeps-step cap limit small _ _ (receiving_stops c) h = keeps-receiving_stops cap c h

pub holds : (cap limit : ℕ) → Near cap limit → (c : Channel) → Runs cap limit c → Holds cap c
holds cap limit small _ starts = holds-fresh cap
holds cap limit small _ (steps c d run step) = keeps-step cap limit small c d step (holds cap limit small c run)

pub lawful : (cap limit : ℕ) → cap + 2 ≤ 2 ^ 30 → limit ≤ 2 ^ 30 → (c : Channel) → Runs cap limit c → IsLawful c
lawful cap limit buffer recency c run =
    let h = holds cap limit (record { buffer = buffer; recency = recency }) c run in
    let t = h.text in
    record {
      unread = c.readable ++ t.rest;
      begins = t.text ∙ append_assoc c.read c.readable t.rest;
      end = λ e.
          let told = t.told e in
          let seen = t.seen told.0 in
          (seen.0, sym (t.text ∙ (ap (λ l. (c.read ++ c.readable) ++ l) seen.1 ∙ (append-nil (c.read ++ c.readable) ∙ (ap (λ l. c.read ++ l) told.1 ∙ append-nil c.read)))));
    }
