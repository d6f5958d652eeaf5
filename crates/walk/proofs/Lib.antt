-- Demand 3: the lists that a walk goes by, what each event does to them, and the theorem `walk`.
pub mod Lists
pub mod Events
pub mod Walk
