pub mod FedAll
pub mod FedAllLaws
