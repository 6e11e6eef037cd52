pub mod await_lemmas
pub mod ending_lemmas
pub mod change_lemmas
