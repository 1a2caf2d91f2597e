use Rattle.std.proofs.Common.{◌∙◌, ap, length, arith}
use Rattle.std.proofs.lemmas.List.{length-take}
use Rattle.tcp_segment.proofs.Sending.{least_offset, with_options}
use Rattle.tcp_segment.proofs.head.Head.write.Goals as goal

pub slice_bounds-copy_from_slice-end-2 : goal.slice_bounds-copy_from_slice-end-2
slice_bounds-copy_from_slice-end-2 c = omega (arith, length-take 20 c.args.out.now, least_offset c.args.self.now)

pub copy_from_slice-requires : goal.copy_from_slice-requires
copy_from_slice-requires c =
    omega (arith, ap length c.fixed.ensures.octets, length-take 20 c.args.out.now, least_offset c.args.self.now)

pub returns-then-has_mss_option-clause-octets : goal.returns-then-has_mss_option-clause-octets
returns-then-has_mss_option-clause-octets c =
    with_options c.args.self.now c.args.checksum c.copy_from_slice.new.self c.write_offers.new.out c.args.out.now
    (c.copy_from_slice.ensures.after ∙ c.fixed.ensures.octets) c.write_offers.ensures

pub returns-then-not-is_empty-clause-octets : goal.returns-then-not-is_empty-clause-octets
returns-then-not-is_empty-clause-octets c =
    with_options c.args.self.now c.args.checksum c.copy_from_slice.new.self c.write_report.new.out c.args.out.now
    (c.copy_from_slice.ensures.after ∙ c.fixed.ensures.octets) c.write_report.ensures
