pub mod ExplainLemmas
pub mod HelpLemmas
