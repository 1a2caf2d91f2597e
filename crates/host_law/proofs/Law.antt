-- The law of one host holds over each run.
use Rattle.std.proofs.Common.{List}
use Rattle.std.specs.List.{AllByRecursion}
use Rattle.sockets.specs.declared.entry.SocketId.{SocketId}
use Rattle.host.specs.ConfigView.{ConfigView}
use Rattle.host.specs.HostView.{HostView}
use Rattle.host.specs.Runs.{Event, HasRunOnOctets, IsAsked, IsOfOctets, Runs, Begins, GoesOn}
use Rattle.host.specs.Sound.{IsSoundHost}
use Rattle.host_law.specs.Going.{SendsWhatWasTaken}
use Rattle.host_law.specs.History.{Always, Step, connection_of, history}
use Rattle.host_law.specs.HostLaw.{HostLaw, KeepsItsEnds, WentOut}
use Rattle.host_law.proofs.Anchors.{IsAnchored, unanchored, keeps_anchored}
use Rattle.host_law.proofs.Apart.{all_kept_out}
use Rattle.host_law.proofs.Befalls.{IsOfConnection}
use Rattle.host_law.proofs.DatagramsGiven.{datagrams_given}
use Rattle.host_law.proofs.DatagramsOut.{datagrams_sent}
use Rattle.host_law.proofs.Ends.{keeps_ends}
use Rattle.host_law.proofs.Led.{of_connection, of_one, parted, sound_of}
use Rattle.host_law.proofs.Reading.{KeepsRead, unread, keeps_read}
use Rattle.host_law.proofs.Sending.{KeepsSent, sent_nothing, keeps_sent, lets_go}
use Rattle.host_law.proofs.SendingOut.{of_stream}
use Rattle.host_law.proofs.Sums.{all-right}
use Rattle.host_law.proofs.WentOut.{none_out, keeps_out}
use Rattle.host_law.proofs.Windows.{KeepsWindow, untold, keeps_window}

-- What every connection keeps.
record Keeps (c : ConfigView) (id : SocketId) (h : HostView) (steps : List Step) : Type 0 where
  pub read : KeepsRead c id h steps
  pub sent : KeepsSent c id h steps
  pub window : KeepsWindow c id h steps
  pub out : WentOut c id h steps
  pub anchored : IsAnchored c id h steps

-- .. and each step
record Goes (c : ConfigView) (steps : List Step) : Type 0 where
  pub ends : Always KeepsItsEnds steps
  pub sends : Always (SendsWhatWasTaken c) steps

record Holds (c : ConfigView) (h : HostView) (steps : List Step) : Type 0 where
  pub keeps : (id : SocketId) → Keeps c id h steps
  pub goes : Goes c steps

holds : (c : ConfigView) (events : List Event) (h : HostView) (run : Runs c events h) → AllByRecursion (IsAsked c) events → AllByRecursion IsOfOctets events → Holds c h (history run)
holds c _ _ Begins asked octets = record { keeps = λ id. record { read = unread c id; sent = sent_nothing c id; window = untold c id; out = none_out c id; anchored = unanchored c id }; goes = record { ends = tt; sends = tt } }
holds c _ h (GoesOn before event old _ run sound numbered makes) asked octets =
    let asked_parts = parted (IsAsked c) before event asked in
    let octet_parts = parted IsOfOctets before event octets in
    let was = holds c before old run asked_parts.0 octet_parts.0 in
    let step : Step = record { before = old; event = event; after = h } in
    let steps = history run in
    let of : (id : SocketId) → IsOfConnection c id step = of_connection c before old h event run sound numbered asked_parts.1 octet_parts.1 makes in
    let goes = was.goes in
    record {
      keeps = λ id. let k = was.keeps id in record { read = keeps_read c id step steps (of id) k.read; sent = keeps_sent c id step steps (of id) k.sent; window = keeps_window c id step steps (of id) k.sent k.window; out = keeps_out c id step steps (of id) k.out; anchored = keeps_anchored c id step steps (of id) k.anchored };
      goes = record {
        ends = ((λ id v w is becomes. let x = of id in keeps_ends c id step (connection_of id old) (connection_of id h) x.befalls v w is becomes), goes.ends);
        sends = (
          (λ source to s out some. let due = of_one c before old h event run sound source to s out some in of_stream c step steps source to s due.0 due.1 (λ id v there. sound_of old id v sound there) (λ id. let k = was.keeps id in k.sent) (λ id. let k = was.keeps id in k.window) (λ id. let k = was.keeps id in k.out) some),
          goes.sends,
        );
      };
    }

pub lawful : (c : ConfigView) (events : List Event) (h : HostView) (run : Runs c events h) → IsSoundHost h → AllByRecursion (IsAsked c) events → AllByRecursion IsOfOctets events → HostLaw c h (history run)
lawful c events h run sound asked octets =
    let so = holds c events h run asked octets in
    let goes = so.goes in
    record {
      ends = goes.ends;
      counts = λ id v there. let k = so.keeps id in let a = k.anchored in a.counts v there (sound_of h id v sound there);
      reads = λ id. let k = so.keeps id in let r = k.read in r.law;
      sends = goes.sends;
      went_out = λ id. let k = so.keeps id in k.out;
      lets_go = λ id. let k = so.keeps id in lets_go c id h (history run) k.sent (λ v there. sound_of h id v sound there);
      apart = all_kept_out c events h run;
      datagrams = datagrams_given c events h run asked;
      datagrams_out = datagrams_sent c events h run asked;
      sums = all-right c events h run octets;
    }

pub lawful_host : (h : HostView) → IsSoundHost h → (was : HasRunOnOctets h) → HostLaw was.run.config h (history was.run.runs)
lawful_host h sound was = let run = was.run in lawful run.config run.events h run.runs sound run.asked was.octets
