pub mod Relabellings
pub mod Refusals
pub mod Pushed
pub mod PushLaws
pub mod inside
