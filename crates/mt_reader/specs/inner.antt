pub mod PageView
