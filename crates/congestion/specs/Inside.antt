-- How the fields of a congestion window are seen.
use Rattle.congestion.specs.declared.window.Cwnd.TheInside.{Inside}
use Rattle.congestion.specs.Window.{Window}

abbrev pub view_of : Inside → Window
view_of c = record {
  control = c.control;
  smss = c.smss;
  cwnd = c.cwnd;
  ssthresh = c.ssthresh;
  duplicates = c.duplicates;
  expired = c.expired;
  restarts = c.restarts;
  prior_cwnd = c.prior_cwnd;
  prior_ssthresh = c.prior_ssthresh;
}
