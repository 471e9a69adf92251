pub mod NormalPattern
