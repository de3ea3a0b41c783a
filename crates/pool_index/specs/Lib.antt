pub mod Printed
pub mod Named
pub mod Under
pub mod Beside
