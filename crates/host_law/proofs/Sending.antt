-- What is let go of our stream was acknowledged, and what was taken from SND.UNA on is held: so each step leaves it.
use Rattle.std.proofs.Common.{◌≡◌, ◌⊎◌, ℕ, ◌+◌, ◌-◌, ◌<◌, if◌then◌else◌, Bool, true, false, List, [], ◌∷◌, ◌++◌, drop, Option, Some, None, inl, inr, refl, sym, ◌∙◌, ap, subst, arith}
use Rattle.std.proofs.lemmas.List.{nil_from_length, drop_all}
use Rattle.std.proofs.Math.Seq.{drop-nil}
use Rattle.tcp_segment.specs.Segment.{Segment}
use Rattle.tcp_segment.specs.Wire.{past}
use Rattle.tcp_state.specs.View.{View, IsSound, is_opening, is_closed, is_write_finished, is_write_closed}
use Rattle.tcp_state.specs.Arrival.{after_segment_at}
use Rattle.tcp_state.specs.Calls.{after_send, after_recv, after_shutdown, after_close}
use Rattle.tcp_state.specs.Due.{first_due}
use Rattle.tcp_state.specs.Edges.{after_first}
use Rattle.tcp_state.proofs.Edges.{emitted-state}
use Rattle.sockets.specs.declared.entry.SocketId.{SocketId}
use Rattle.host.specs.ConfigView.{ConfigView}
use Rattle.host.specs.HostView.{HostView, new_host}
use Rattle.host_law.specs.Callers.{sent_at, sent_on, closed_at}
use Rattle.host_law.specs.Coming.{Acknowledges, IsHeard}
use Rattle.host_law.specs.History.{Step, Once, connection_of}
use Rattle.host_law.specs.HostLaw.{LetsGoWhatCame}
use Rattle.host_law.specs.Positions.{let_go, snd_una}
use Rattle.host_law.proofs.Befalls.{IsGone, Befalls, absent, connects, accepts, quietly, hears, emits, sends, reads, shuts, closes, leaves, IsOfConnection}
use Rattle.host_law.proofs.SendingHalf.{Stands, Makes, Goes, Heard, opening_holds, finished_holds}
use Rattle.host_law.proofs.SendingHalf as half

-- what the sending half of a connection that lives keeps of what was taken and acknowledged
pub record SendsFrom (id : SocketId) (v : View) (steps : List Step) : Type 0 where
  pub stands : Stands v (snd_una id steps) (sent_on id steps)
  pub closed : is_write_closed v.state ≡ true → Once (λ step earlier. closed_at id step.event ≡ true) steps

-- and of each id at a host
pub record KeepsSent (c : ConfigView) (id : SocketId) (h : HostView) (steps : List Step) : Type 0 where
  pub acknowledged : (position : ℕ) → position < snd_una id steps → Once (Acknowledges c id position) steps
  pub live : (v : View) → connection_of id h ≡ Some v → is_closed v.state ≡ false → SendsFrom id v steps
  pub new : connection_of id h ≡ None → IsGone id h ⊎ ((sent_on id steps ≡ []) × (snd_una id steps ≡ 0))

pub nobody : (o : Option View) (v : View) → o ≡ None → o ≡ Some v → ⊥
nobody o v none some = let bad : ◌≡◌ {A = Option View} None (Some v) = sym none ∙ some in cc

pub one_view : (o : Option View) (v w : View) → o ≡ Some v → o ≡ Some w → v ≡ w
one_view o v w e f = let same : Some v ≡ Some w = sym e ∙ f in cc

-- A new host has no connections.
pub sent_nothing : (c : ConfigView) (id : SocketId) → KeepsSent c id (new_host c) []
sent_nothing c id = record {
  acknowledged = λ position below. absurd (omega (arith, below));
  live = λ v is. absurd (nobody (connection_of id (new_host c)) v refl is);
  new = λ none. inr (refl, refl);
}

module _ (c : ConfigView) (id : SocketId) (step : Step) (earlier : List Step) where
  abbrev steps : List Step
  steps = step ∷ earlier

  -- SND.UNA stands where it stood
  lifted : snd_una id steps ≡ snd_una id earlier → KeepsSent c id step.before earlier → (position : ℕ) → position < snd_una id steps → Once (Acknowledges c id position) steps
  lifted same was position below = inr (was.acknowledged position (omega (arith, below, same)))

  pub moves : (o p : Option View) → connection_of id step.before ≡ o → connection_of id step.after ≡ p → snd_una id steps ≡ snd_una id earlier + let_go o p
  moves o p before after = ap (λ x. snd_una id earlier + let_go x (connection_of id step.after)) before ∙ ap (λ x. snd_una id earlier + let_go o x) after

  gives : (more : List ℕ) → sent_at id step.before step.event ≡ more → sent_on id steps ≡ sent_on id earlier ++ more
  gives more sent = ap (λ l. sent_on id earlier ++ l) sent

  -- what a step makes of a connection that goes on
  record Continues (v w : View) (more : List ℕ) : Type 0 where
    pub makes : Makes v w more
    pub acknowledged : (position : ℕ) → position < snd_una id earlier + past w.sending.una v.sending.una → Once (Acknowledges c id position) steps
    pub shut : is_write_closed w.state ≡ true → (is_write_closed v.state ≡ true) ⊎ (closed_at id step.event ≡ true)

  goes_on : (v w : View) (more : List ℕ) → connection_of id step.before ≡ Some v → connection_of id step.after ≡ Some w → sent_at id step.before step.event ≡ more → KeepsSent c id step.before earlier
      → (is_closed w.state ≡ false → Continues v w more) → KeepsSent c id step.after steps
  goes_on v w more before after sent was continues =
      let moved : snd_una id steps ≡ snd_una id earlier + (if is_closed w.state then 0 else past w.sending.una v.sending.una) = moves (Some v) (Some w) before after in
      record {
        acknowledged = λ position below. by_end position (is_closed w.state) refl (omega (arith, below, moved));
        live = λ x is lives.
            let same : w ≡ x = one_view (connection_of id step.after) w x after is in
            subst (λ y. SendsFrom id y steps) same (living (subst (λ y. is_closed y.state ≡ false) (sym same) lives) moved);
        new = λ none. absurd (nobody (connection_of id step.after) w none after);
      }
    where
      by_end : (position : ℕ) (ended : Bool) → is_closed w.state ≡ ended → position < snd_una id earlier + (if ended then 0 else past w.sending.una v.sending.una) → Once (Acknowledges c id position) steps
      by_end position true ended below = inr (was.acknowledged position (omega (arith, below)))
      by_end position false lives below = (continues lives).acknowledged position below

      living : is_closed w.state ≡ false → snd_una id steps ≡ snd_una id earlier + (if is_closed w.state then 0 else past w.sending.una v.sending.una) → SendsFrom id w steps
      living lives moved =
          let on = continues lives in
          let from = was.live v before on.makes.lives in
          let una : snd_una id earlier + past w.sending.una v.sending.una ≡ snd_una id steps = sym (moved ∙ ap (λ b. snd_una id earlier + (if b then 0 else past w.sending.una v.sending.una)) lives) in
          record {
            stands = subst (λ n. Stands w n (sent_on id steps)) una
                (subst (λ l. Stands w (snd_una id earlier + past w.sending.una v.sending.una) l) (sym (gives more sent)) (on.makes.stands (snd_una id earlier) (sent_on id earlier) from.stands));
            closed = λ shut. elim (on.shut shut) [ inl before ↦ inr (from.closed before) | inr now ↦ inl now ];
          }

  -- .. and where SND.UNA moves nowhere
  plainly : (v w : View) (more : List ℕ) → connection_of id step.before ≡ Some v → connection_of id step.after ≡ Some w → sent_at id step.before step.event ≡ more → KeepsSent c id step.before earlier
      → (is_closed w.state ≡ false → Goes v w more) → (is_closed w.state ≡ false → is_write_closed w.state ≡ true → (is_write_closed v.state ≡ true) ⊎ (closed_at id step.event ≡ true)) → KeepsSent c id step.after steps
  plainly v w more before after sent was goes shut = goes_on v w more before after sent was (λ lives. let g = goes lives in record {
    makes = g.makes;
    acknowledged = λ position below. let still = g.still in inr (was.acknowledged position (omega (arith, below, still)));
    shut = shut lives;
  })

  stays_shut : (v w : View) → w.state ≡ v.state → is_write_closed w.state ≡ true → (is_write_closed v.state ≡ true) ⊎ (closed_at id step.event ≡ true)
  stays_shut v w same shut = inl (sym (ap is_write_closed same) ∙ shut)

  -- there is none
  is_absent : connection_of id step.before ≡ None → connection_of id step.after ≡ None → sent_at id step.before step.event ≡ [] → (IsGone id step.before → IsGone id step.after) → KeepsSent c id step.before earlier
      → KeepsSent c id step.after steps
  is_absent before after sent gone was =
      let moved : snd_una id steps ≡ snd_una id earlier + 0 = moves None None before after in
      record {
        acknowledged = lifted (omega (arith, moved)) was;
        live = λ x is lives. absurd (nobody (connection_of id step.after) x after is);
        new = λ none. elim (was.new before) [
          | inl over ↦ inl (gone over)
          | inr none ↦ let una = none.1 in inr (gives [] sent ∙ ap (λ l. l ++ []) none.0, omega (arith, moved, una))
        ];
      }

  -- it is opened
  begins : (w : View) → connection_of id step.before ≡ None → connection_of id step.after ≡ Some w → sent_at id step.before step.event ≡ [] → (IsGone id step.before → ⊥) → is_opening w.state ≡ true → is_write_closed w.state ≡ false
      → KeepsSent c id step.before earlier → KeepsSent c id step.after steps
  begins w before after sent kept opening unclosed was =
      let moved : snd_una id steps ≡ snd_una id earlier + 0 = moves None (Some w) before after in
      record {
        acknowledged = lifted (omega (arith, moved)) was;
        live = λ x is lives. subst (λ y. SendsFrom id y steps) (one_view (connection_of id step.after) w x after is) (record {
          stands = record {
            opening = λ e. elim (was.new before) [
              | inl over ↦ absurd (kept over)
              | inr none ↦ let una = none.1 in (omega (arith, moved, una), gives [] sent ∙ ap (λ l. l ++ []) none.0)
            ];
            going = λ opened. let bad : true ≡ false = sym opening ∙ opened in cc;
            finished = λ opened. let bad : true ≡ false = sym opening ∙ opened in cc;
          };
          closed = λ shut. let bad : true ≡ false = sym shut ∙ unclosed in cc;
        });
        new = λ none. absurd (nobody (connection_of id step.after) w none after);
      }

  -- it leaves the table
  is_left : (v : View) → connection_of id step.before ≡ Some v → connection_of id step.after ≡ None → IsGone id step.after → KeepsSent c id step.before earlier → KeepsSent c id step.after steps
  is_left v before after gone was =
      let moved : snd_una id steps ≡ snd_una id earlier + 0 = moves (Some v) None before after in
      record {
        acknowledged = lifted (omega (arith, moved)) was;
        live = λ x is lives. absurd (nobody (connection_of id step.after) x after is);
        new = λ none. inl gone;
      }

  -- a segment comes to it
  is_heard : (v w : View) (s : Segment) → connection_of id step.before ≡ Some v → connection_of id step.after ≡ Some w → sent_at id step.before step.event ≡ [] → IsHeard c id v s step → (is_closed w.state ≡ false → Heard v s w)
      → KeepsSent c id step.before earlier → KeepsSent c id step.after steps
  is_heard v w s before after sent comes heard was = goes_on v w [] before after sent was (λ lives. let h = heard lives in record {
    makes = h.makes;
    acknowledged = λ position below. elim h.confirms [
      | inl still ↦ inr (was.acknowledged position (omega (arith, below, still)))
      | inr confirms ↦ let reaches = confirms.1 in inl (record {
        v = v;
        s = s;
        heard = comes;
        ack = confirms.0.ack;
        no_rst = confirms.0.no_rst;
        used = confirms.0.used;
        sent = confirms.0.sent;
        past_it = omega (arith, below, reaches);
      })
    ];
    shut = λ shut. inl (h.shut shut);
  })

  -- each of them
  by_what : (o p : Option View) → connection_of id step.before ≡ o → connection_of id step.after ≡ p → ((v : View) → connection_of id step.before ≡ Some v → IsSound v) → Befalls c id step o p → KeepsSent c id step.before earlier
      → KeepsSent c id step.after steps
  by_what _ _ before after sound (absent untold gone) was = is_absent before after untold.sent gone was
  by_what _ _ before after sound (connects room local peer isn now fits untold kept) was = begins _ before after untold.sent kept refl refl was
  by_what _ _ before after sound (accepts room local peer isn s now fits untold kept opened) was = begins _ before after untold.sent kept refl refl was
  by_what _ _ before after sound (quietly v w untold quiet) was =
      plainly v w [] before after untold.sent was (λ lives. half.unchanged v w (sound v before) (half.quiet v w quiet lives) lives) (λ lives. stays_shut v w (half.quiet v w quiet lives).state)
  by_what _ _ before after sound (hears v s now untold comes) was = is_heard v (after_segment_at v s now) s before after untold.sent comes (half.hears v s now (sound v before)) was
  by_what _ _ before after sound (emits v now untold out) was =
      plainly v (after_first v (first_due v) now) [] before after untold.sent was (half.emits v now (sound v before)) (λ lives. stays_shut v (after_first v (first_due v) now) (emitted-state v (first_due v) now))
  by_what _ _ before after sound (sends v octets now may taken read ended) was = plainly v (after_send v octets now) _ before after taken was (half.sends v octets now (sound v before) may) (λ lives. stays_shut v (after_send v octets now) (half.sends_state v octets now))
  by_what _ _ before after sound (reads v len may kept sent read ended) was =
      plainly v (after_recv v len) [] before after sent was (half.unchanged v (after_recv v len) (sound v before) (half.receives v len)) (λ lives. stays_shut v (after_recv v len) (half.receives v len).state)
  by_what _ _ before after sound (shuts v now untold closed may) was = plainly v (after_shutdown v now) [] before after untold.sent was (half.shuts v now (sound v before)) (λ lives shut. inr closed)
  by_what _ _ before after sound (closes v now untold closed) was = plainly v (after_close v now) [] before after untold.sent was (half.closes v now (sound v before)) (λ lives shut. inr closed)
  by_what _ _ before after sound (leaves v untold gone) was = is_left v before after gone was

-- Each step keeps it.
pub keeps_sent : (c : ConfigView) (id : SocketId) (step : Step) (earlier : List Step) → IsOfConnection c id step → KeepsSent c id step.before earlier → KeepsSent c id step.after (step ∷ earlier)
keeps_sent c id step earlier is was = by_what c id step earlier (connection_of id step.before) (connection_of id step.after) refl refl is.sound is.befalls was

-- What is let go was acknowledged, and the rest is held.
pub lets_go : (c : ConfigView) (id : SocketId) (h : HostView) (steps : List Step) → KeepsSent c id h steps → ((v : View) → connection_of id h ≡ Some v → IsSound v) → LetsGoWhatCame c id h steps
lets_go c id h steps keeps sound = record {
  acknowledged = keeps.acknowledged;
  held = λ v is lives. by_state v (sound v is) (keeps.live v is lives).stands (is_opening v.state) (is_write_finished v.state) refl refl;
}
  where
    una : ℕ
    una = snd_una id steps

    sent : List ℕ
    sent = sent_on id steps

    by_state : (v : View) → IsSound v → Stands v una sent → (opening finished : Bool) → is_opening v.state ≡ opening → is_write_finished v.state ≡ finished → v.sending.held ≡ drop (una - 1) sent
    by_state v sound stands true finished opens ends =
        let none = opening_holds v sound opens in
        nil_from_length v.sending.held (omega (arith, none)) ∙ sym (ap (drop (una - 1)) (stands.opening opens).1 ∙ drop-nil (una - 1))
    by_state v sound stands false true opens ends =
        let none = finished_holds v sound ends in
        let all = stands.finished opens ends in
        nil_from_length v.sending.held (omega (arith, none)) ∙ sym (drop_all (una - 1) sent (omega (arith, all)))
    by_state v sound stands false false opens ends = (stands.going opens ends).is
