pub mod AtTheBound
pub mod CallsItself
pub mod Hello
pub mod Ranked
pub mod TimedCall
