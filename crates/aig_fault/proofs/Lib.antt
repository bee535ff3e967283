pub mod Numbers
pub mod Stoppings
