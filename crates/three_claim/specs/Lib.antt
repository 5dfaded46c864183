pub mod ThreeClaim
