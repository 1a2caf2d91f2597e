-- Keys of datagrams.
use Rattle.std.specs.Prelude.{Bool, ◌&&◌, ◌==◌}
use Rattle.ipv4.specs.Addresses.{same_addr}
use Rattle.reassembly.specs.declared.key.Key.{Key}

-- source, destination, protocol and identification are the same
abbrev pub same_key : Key → Key → Bool
same_key a b =
    same_addr a.source b.source && same_addr a.destination b.destination && a.protocol.0 == b.protocol.0 && a.identification == b.identification
