use Rattle.std.proofs.Common.{arith}
use Rattle.ipv4.proofs.laws.addresses_of_one_host.Goals as goal

pub returns-clause-class_a : goal.returns-clause-class_a
returns-clause-class_a c = λ addr octets least most. record { octets = octets; not_this_network = least; class_a_to_c = omega (arith, most); not_loopback = λ is. omega (arith, most, is) }

pub returns-clause-class_b : goal.returns-clause-class_b
returns-clause-class_b c = λ addr octets least most. record { octets = octets; not_this_network = omega (arith, least); class_a_to_c = omega (arith, most); not_loopback = λ is. omega (arith, least, is) }

pub returns-clause-class_c : goal.returns-clause-class_c
returns-clause-class_c c = λ addr octets least most. record { octets = octets; not_this_network = omega (arith, least); class_a_to_c = omega (arith, most); not_loopback = λ is. omega (arith, least, is) }

pub returns-clause-others : goal.returns-clause-others
returns-clause-others c = λ addr is. (λ zero. omega (arith, is.not_this_network, zero), is.not_loopback, omega (arith, is.class_a_to_c))
