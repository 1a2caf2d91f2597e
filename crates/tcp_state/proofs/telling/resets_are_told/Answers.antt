use Rattle.tcp_state.proofs.ResetErrors.{refused_in_syn_sent, refused_in_syn_received, back_to_listen, reset_where_open, untold_where_shut, others_tell_none}
use Rattle.tcp_state.proofs.telling.resets_are_told.Goals as goal

pub returns : goal.returns
returns c = record {
  refused = refused_in_syn_sent;
  opening = refused_in_syn_received;
  listener = back_to_listen;
  lost = reset_where_open;
  shut = untold_where_shut;
  others = others_tell_none;
}
