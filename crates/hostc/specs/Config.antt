-- `struct host_config` by its octets. Its numbers have their lowest octet first.
use Rattle.std.specs.Prelude.{◌≡◌, ◌≤◌, ◌==◌, ℕ, nat_lt, if◌then◌else◌, true, false, List, All, length, take, drop, slice_index}
use Rattle.byteorder.specs.Endian.{little_number}
use Rattle.congestion.specs.declared.control.Recovery.{Recovery}
use Rattle.congestion.specs.declared.control.Recovery.TheVariants.{Plain, NewReno, Selective}
use Rattle.ether.specs.declared.mac.Mac.{Mac}
use Rattle.host.specs.declared.sizes.Sizes.{Sizes}
use Rattle.host.specs.declared.sizes.TheConstants.Sizes.{USUAL}
use Rattle.hostc.specs.declared.config.Config.{Config}

-- the size that it gives itself
abbrev pub size_in : List ℕ → ℕ
size_in octets = little_number 8 octets

-- octet 34: 0 where windows are scaled, and 1 where they are not to be
abbrev pub no_window_scale_in : List ℕ → ℕ
no_window_scale_in octets = slice_index octets 34

-- octet 35: 1 where small segments wait for small ones only, and else 0
abbrev pub minshall_in : List ℕ → ℕ
minshall_in octets = slice_index octets 35

-- octet 36: 0 where losses are repaired as RFC 5681 has it alone, 1 where by NewReno, and 2 where with selective acknowledgements beside it
abbrev pub recovery_in : List ℕ → ℕ
recovery_in octets = slice_index octets 36

-- octet 37: of how many segments the first congestion window is, and 0 where of two to four
abbrev pub first_segments_in : List ℕ → ℕ
first_segments_in octets = slice_index octets 37

-- octets 38 and 39: the least retransmission timeout in milliseconds, and 0 for the usual one
abbrev pub least_timeout_in : List ℕ → ℕ
least_timeout_in octets = little_number 2 (drop 38 octets)

-- octets 40 to 43: the first slow start threshold in octets, and 0 for the usual one, as where there are fewer octets
abbrev pub first_threshold_in : List ℕ → ℕ
first_threshold_in octets = if nat_lt (length octets) 44 then 0 else little_number 4 (drop 40 octets)

-- octet 44: 1 where the host is on its guard, and else 0, as where there are fewer octets
abbrev pub guards_in : List ℕ → ℕ
guards_in octets = if nat_lt (length octets) 45 then 0 else slice_index octets 44

-- octets 45 to 59 say how large the host is, by an octet or by several, and count as 0 where there are fewer than 60 octets
abbrev pub octet_at : ℕ → List ℕ → ℕ
octet_at place octets = if nat_lt (length octets) 60 then 0 else slice_index octets place

abbrev pub number_at : ℕ → ℕ → List ℕ → ℕ
number_at place count octets = if nat_lt (length octets) 60 then 0 else little_number count (drop place octets)

-- octet 46: 1 where no datagrams are put together, and else 0
abbrev pub no_reassembly_in : List ℕ → ℕ
no_reassembly_in octets = octet_at 46 octets

-- where the last option that is there ends
abbrev pub options_end : List ℕ → ℕ
options_end octets = if nat_lt (length octets) 44 then 40 else if nat_lt (length octets) 45 then 44 else if nat_lt (length octets) 60 then 45 else 60

-- Octets as many as they say, 40 at least, that ask for nothing that isn't known: no octet that chooses between two is over 1, none between three over 2, and
-- all behind the last option are 0.
pub record IsConfig (octets : List ℕ) : Type 0 where
  pub sized : size_in octets ≡ length octets
  pub least : 40 ≤ length octets
  pub scale : no_window_scale_in octets ≤ 1
  pub small : minshall_in octets ≤ 1
  pub repair : recovery_in octets ≤ 2
  pub guard : guards_in octets ≤ 1
  pub pool : no_reassembly_in octets ≤ 1
  pub rest : All (λ octet. octet ≡ 0) (drop (options_end octets) octets)

-- a number, or where it is 0 the usual one
abbrev pub or_usual : ℕ → ℕ → ℕ
or_usual usual number = if number == 0 then usual else number

abbrev pub recovery_of : ℕ → Recovery
recovery_of number = if number == 1 then NewReno else if number == 2 then Selective else Plain

-- control replies by octet 45; datagrams that are put together by octet 47, where octet 46 doesn't say that none is; entries by 48 to 51; the octets
-- of a connection's buffers by 52 to 55; neighbours by 56 and 57; and the octets of a datagram that is put together by 58 and 59
abbrev pub sizes_in : List ℕ → Sizes
sizes_in octets = record {
  entries = or_usual 64 (number_at 48 4 octets);
  buffer = or_usual 1048576 (number_at 52 4 octets);
  reassemblies = if no_reassembly_in octets == 1 then 0 else or_usual 4 (octet_at 47 octets);
  reassembly_octets = or_usual 65515 (number_at 58 2 octets);
  replies = or_usual 16 (octet_at 45 octets);
  neighbours = or_usual 64 (number_at 56 2 octets);
}

-- what they say: the address from octet 24 on, and the MAC from octet 28 on. The routes between, from octet 8 on, are passed beside them.
abbrev pub config_in : List ℕ → Config
config_in octets = record {
  mac = record { 0 = take 6 (drop 28 octets) };
  addr = little_number 4 (drop 24 octets);
  scales = no_window_scale_in octets == 0;
  minshall = minshall_in octets == 1;
  recovery = recovery_of (recovery_in octets);
  first_segments = first_segments_in octets;
  least_timeout = or_usual 1000 (least_timeout_in octets);
  first_threshold = or_usual 65535 (first_threshold_in octets);
  guards = guards_in octets == 1;
  sizes = sizes_in octets;
}

-- what a config says whose options are 0
abbrev pub usual_config : Mac → ℕ → Config
usual_config mac addr = record { mac = mac; addr = addr; scales = true; minshall = false; recovery = Plain; first_segments = 0; least_timeout = 1000; first_threshold = 65535; guards = false; sizes = USUAL }
