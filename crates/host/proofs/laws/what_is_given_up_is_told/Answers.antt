-- What is left is what isn't taken, of replies, resets and datagrams alike.
use Rattle.std.proofs.Common.{◌+◌, not, List, length, sym, ◌∙◌, ap, refl}
use Rattle.std.specs.List.{count_by}
use Rattle.ipv4.specs.declared.addr.Endpoint.{Endpoint}
use Rattle.clock.specs.declared.moment.Moment.{Moment}
use Rattle.interface.specs.Timing.{stays}
use Rattle.udp_socket.specs.SocketView.{Outgoing}
use Rattle.udp_socket.specs.Waits as datagrams
use Rattle.sockets.specs.GivenUp.{waiting_datagrams}
use Rattle.sockets.specs.Lost.{waiting_resets}
use Rattle.sockets.specs.SocketsView.{later_moment}
use Rattle.sockets.proofs.Counted.{datagrams_left, ends, resets_ended, resets_left}
use Rattle.host.specs.Ticks.{lacks_hop, table_after_tick}
use Rattle.host.proofs.Counted.{counted, twice_not}
use Rattle.host.proofs.laws.what_is_given_up_is_told.Goals as goal

pub returns : goal.returns
returns c = record {
  replies = λ h now. let moment = later_moment h.sockets now in
      counted (λ w. not (stays h.interface moment w)) (stays h.interface moment) (λ w. twice_not (stays h.interface moment w)) h.interface.replies;
  resets = λ h now sound keeps.
      let moment = later_moment h.sockets now in
      let lost = lacks_hop h moment in
      let last = later_moment h.sockets moment in
      let waiting = waiting_resets h.sockets in
      counted (ends lost last) (λ wait. not (ends lost last wait)) (λ wait. refl) waiting
      ∙ ap (λ (ws : List (Endpoint × Moment)). length ws + count_by (ends lost last) waiting) (sym (resets_left h.sockets lost moment sound.table keeps))
      ∙ ap (λ n. length (waiting_resets (table_after_tick h moment)) + n) (resets_ended h.sockets lost moment);
  datagrams = λ h now.
      let moment = later_moment h.sockets now in
      let lost = lacks_hop h moment in
      let last = later_moment h.sockets moment in
      let waiting = waiting_datagrams h.sockets in
      counted (datagrams.is_given_up lost last) (λ o. not (datagrams.is_given_up lost last o)) (λ o. refl) waiting
      ∙ ap (λ (os : List Outgoing). length os + count_by (datagrams.is_given_up lost last) waiting) (sym (datagrams_left h.sockets lost moment));
}
