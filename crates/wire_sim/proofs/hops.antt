pub mod UnsentStaysSilent
pub mod SpeakersHaveHops
pub mod OpenConnectionsLead
