-- What may happen in a channel, one event at a time. Each free choice of a host or of the network is a step of its own.
use Rattle.std.specs.Prelude.{◌≡◌, ℕ, ◌+◌, ◌-◌, ◌<◌, ◌≤◌, ◌%◌, ◌^◌, nat_lt, Bool, true, false, ◌||◌, if◌then◌else◌, List, [], ◌∷◌, ◌++◌, length, drop, Option, Some, None, slice_get}
use Rattle.tcp_segment.specs.Wire.{past}
use Rattle.tcp_halves.specs.Numbers.{later_number}
use Rattle.stream_law.specs.Channel.{Frame, Ack, Sender, Receiver, Unopened, Open, Stopped, Waiting, Synchronised, Gone, Channel, IsAmong, IsRecent, IsKnown, number_of}

-- nothing has happened: neither host has opened the pair in this epoch
abbrev pub fresh : Channel
fresh = record {
  written = [];
  closed = false;
  read = [];
  ended = false;
  readable = [];
  end_seen = false;
  sending = Unopened;
  receiving = Waiting;
  frames = [];
  acks = [];
}

abbrev pub nothing_kept : ℕ → Option ℕ
nothing_kept distance = None

-- what is sent from an initial number
abbrev pub sender_from : ℕ → Sender
sender_from isn = record { held = []; una = isn; nxt = isn; syn_acked = false; fin_acked = false }

-- the numbers that an octet string takes, with a FIN behind it or not
abbrev pub span : List ℕ → Bool → ℕ
span octets fin = length octets + number_of fin

-- how many of the numbers from SND.UNA up to an acknowledgement are no SYN
abbrev pub octets_up_to : Sender → ℕ → ℕ
octets_up_to s ack = past ack s.una - number_of (if s.syn_acked then false else true)

-- the sender after an acknowledgement past SND.UNA: the SYN, octets, the FIN are acknowledged in turn
abbrev pub acknowledged : Sender → ℕ → Sender
acknowledged s ack =
    let octets = octets_up_to s ack in
    record {
      held = drop octets s.held;
      una = ack;
      nxt = s.nxt;
      syn_acked = true;
      fin_acked = s.fin_acked || nat_lt (length s.held) octets;
    }

pub data Step (cap limit : ℕ) : Channel → Channel → Type 0 where
  -- x opens the pair, with any initial number
  opens : (c : Channel) (isn : ℕ) → c.sending ≡ Unopened → isn < 2 ^ 32 → Step cap limit c (record c { sending = Open (sender_from isn) })
  -- x takes octets from its caller
  writes : (c : Channel) (s : Sender) (octets : List ℕ) → c.sending ≡ Open s → c.closed ≡ false → length (s.held ++ octets) ≤ cap
      → Step cap limit c (record c { written = c.written ++ octets; sending = Open (record s { held = s.held ++ octets }) })
  -- x's caller closes its side
  closes : (c : Channel) → Step cap limit c (record c { closed = true })
  -- the SYN goes out, first or again
  emits_syn : (c : Channel) (s : Sender) → c.sending ≡ Open s → s.syn_acked ≡ false
      → Step cap limit c (record c {
        sending = Open (record s { nxt = (s.una + 1) % 2 ^ 32 });
        frames = record { number = s.una; octets = []; syn = true; fin = false; written_at = length c.written } ∷ c.frames;
      })
  -- any octets that are held go out at their numbers, first or again, and the FIN only right behind the last of them
  emits_text : (c : Channel) (s : Sender) (before octets after : List ℕ) (fin : Bool) → c.sending ≡ Open s → s.syn_acked ≡ true → s.fin_acked ≡ false
      → s.held ≡ (before ++ octets) ++ after → (fin ≡ true → (c.closed ≡ true) × (after ≡ []))
      → Step cap limit c (record c {
        sending = Open (record s { nxt = later_number s.una s.nxt ((s.una + (length before + span octets fin)) % 2 ^ 32) });
        frames = record { number = (s.una + length before) % 2 ^ 32; octets = octets; syn = false; fin = fin; written_at = length c.written } ∷ c.frames;
      })
  -- a segment without octets, SYN or FIN goes out at SND.NXT
  emits_bare : (c : Channel) (s : Sender) → c.sending ≡ Open s
      → Step cap limit c (record c { frames = record { number = s.nxt; octets = []; syn = false; fin = false; written_at = length c.written } ∷ c.frames })
  -- .. or once the SYN is acknowledged at the number before that
  emits_before : (c : Channel) (s : Sender) → c.sending ≡ Open s → s.syn_acked ≡ true
      → Step cap limit c (record c { frames = record { number = (s.nxt + (2 ^ 32 - 1)) % 2 ^ 32; octets = []; syn = false; fin = false; written_at = length c.written } ∷ c.frames })
  -- a SYN arrives where y waits for it
  synchronises : (c : Channel) (f : Frame) → c.receiving ≡ Waiting → IsAmong f c.frames → f.syn ≡ true
      → Step cap limit c (record c { receiving = Synchronised (record { rnext = (f.number + 1) % 2 ^ 32; kept = nothing_kept }) })
  -- octets arrive: y takes what stands next, as far as it is known, and keeps what is known beyond; the FIN counts only where it
  -- stands next behind them
  delivers : (c : Channel) (r : Receiver) (f : Frame) (gained : List ℕ) (kept : ℕ → Option ℕ) (fin : Bool)
      → c.receiving ≡ Synchronised r → IsAmong f c.frames → IsRecent limit c.written f.written_at
      → ((i o : ℕ) → slice_get gained i ≡ Some o → IsKnown r f i o)
      → ((i o : ℕ) → kept i ≡ Some o → IsKnown r f (length gained + number_of fin + i) o)
      → (fin ≡ true → (f.fin ≡ true) × (c.end_seen ≡ false) × (past (f.number + length f.octets) r.rnext ≡ length gained))
      → Step cap limit c (record c {
        readable = c.readable ++ gained;
        end_seen = c.end_seen || fin;
        receiving = Synchronised (record { rnext = (r.rnext + (length gained + number_of fin)) % 2 ^ 32; kept = kept });
      })
  -- y acknowledges all that it has in order
  emits_ack : (c : Channel) (r : Receiver) → c.receiving ≡ Synchronised r → Step cap limit c (record c { acks = record { number = r.rnext; written_at = length c.written } ∷ c.acks })
  -- an acknowledgement past SND.UNA arrives
  acknowledges : (c : Channel) (s : Sender) (a : Ack) → c.sending ≡ Open s → IsAmong a c.acks → IsRecent limit c.written a.written_at
      → 0 < past a.number s.una → past a.number s.una < 2 ^ 31
      → Step cap limit c (record c { sending = Open (acknowledged s a.number) })
  -- y's caller is given the first octets of what is readable
  reads : (c : Channel) (octets rest : List ℕ) → c.readable ≡ octets ++ rest → Step cap limit c (record c { read = c.read ++ octets; readable = rest })
  -- y's caller is told the end
  reads_end : (c : Channel) → c.readable ≡ [] → c.end_seen ≡ true → Step cap limit c (record c { ended = true })
  -- either half stops for good
  sending_stops : (c : Channel) (s : Sender) → c.sending ≡ Open s → Step cap limit c (record c { sending = Stopped })
  receiving_stops : (c : Channel) → Step cap limit c (record c { receiving = Gone })

-- what a channel may come to, one step after another
pub data Runs (cap limit : ℕ) : Channel → Type 0 where
  starts : Runs cap limit fresh
  steps : (c d : Channel) → Runs cap limit c → Step cap limit c d → Runs cap limit d

-- the law of one channel: what was read begins what was written, and the end was told only where the writer closed its side
-- and all that it wrote was read
pub record IsLawful (c : Channel) : Type 0 where
  pub unread : List ℕ
  pub begins : c.written ≡ c.read ++ unread
  pub end : c.ended ≡ true → (c.closed ≡ true) × (c.read ≡ c.written)

-- over every run, with buffers of at most 2^30 - 2 octets and frames of which none is older than 2^30 octets written
abbrev pub EveryChannelIsLawful : Type 0
EveryChannelIsLawful = (cap limit : ℕ) → cap + 2 ≤ 2 ^ 30 → limit ≤ 2 ^ 30 → (c : Channel) → Runs cap limit c → IsLawful c
