-- What an error quotes of the datagram that caused it (RFC 792, RFC 1122 section 3.2.2).
use Rattle.std.specs.Prelude.{◌≡◌, ℕ, ◌+◌, ◌*◌, ◌/◌, ◌%◌, ◌<◌, ◌≤◌, ◌^◌, List, ◌∷◌, ◌++◌, length, drop}
use Rattle.byteorder.specs.Endian.{big_bytes, big_number}
use Rattle.ipv4.specs.Datagram.{Datagram}
use Rattle.icmp.specs.declared.quote.Quote.{Quote}

-- The octets of a quote: a header of version 4 and as long as it says in words of four octets, and behind it the two ports and
-- four octets more, the number of a TCP segment. The parts of the header that tell nothing of who speaks with whom may be
-- anything: `service` stands for type of service to time to live.
abbrev pub quoted : Quote → List ℕ → List ℕ → List ℕ → List ℕ
quoted quote service checksum options =
    (16 * 4 + (20 + length options) / 4) ∷ service ++ quote.protocol.0 ∷ checksum
    ++ quote.source.addr.0 ++ quote.destination.addr.0 ++ options
    ++ big_bytes 2 quote.source.port ++ big_bytes 2 quote.destination.port ++ big_bytes 4 quote.number

-- each part has its width
pub record IsQuote (quote : Quote) : Type 0 where
  pub protocol : quote.protocol.0 < 2 ^ 8
  pub source_addr : length quote.source.addr.0 ≡ 4
  pub destination_addr : length quote.destination.addr.0 ≡ 4
  pub source_port : quote.source.port < 2 ^ 16
  pub destination_port : quote.destination.port < 2 ^ 16
  pub number : quote.number < 2 ^ 32

-- The octets begin with this quote: a whole header, with options that fill up words, and 8 octets behind it. More may follow.
pub record Quotes (quote : Quote) (octets : List ℕ) : Type 0 where
  pub service : List ℕ
  pub checksum : List ℕ
  pub options : List ℕ
  pub rest : List ℕ
  pub fields : IsQuote quote
  pub service_len : length service ≡ 8
  pub checksum_len : length checksum ≡ 2
  pub words : length options % 4 ≡ 0
  pub header : 20 + length options ≤ 60
  pub spelled : octets ≡ quoted quote service checksum options ++ rest

-- what an error quotes of this datagram
abbrev pub quote_of : Datagram → Quote
quote_of d = record {
  protocol = record { 0 = d.protocol };
  source = record { addr = d.source; port = big_number 2 d.payload };
  destination = record { addr = d.destination; port = big_number 2 (drop 2 d.payload) };
  number = big_number 4 (drop 4 d.payload);
}
